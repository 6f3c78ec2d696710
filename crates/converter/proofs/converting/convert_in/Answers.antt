-- `converter::converting::convert_in` meets its contract: the fixed fields and the records stand one behind the other.
-- Assumes nothing.
use native.Mathlib.Omega.{arith}
use Rattle.std.proofs.lemmas.Result.{err_from_is_err_and}
use Rattle.encoding.specs.Text.{ascii}
use Rattle.formats.specs.RoundFile.{count_field, round_mark}
use Rattle.converter.proofs.FileConverting.{convert_clear, convert_made, convert_none, seven_bytes}
use Rattle.converter.proofs.converting.convert_in.Goals as goal

pub returns-in_err-test_convert-clause-answer : goal.returns-in_err-test_convert-clause-answer
returns-in_err-test_convert-clause-answer c =
    let passed_on = err_from_is_err_and c.from_residual.result c.from_residual.ensures.1 in
    rw (passed_on.1, passed_on.2) (convert_none _ _ _ c.in_err-test_convert.field-0.0 c.in_err-test_convert.ensures).0

pub returns-in_err-test_convert-clause-bytes : goal.returns-in_err-test_convert-clause-bytes
returns-in_err-test_convert-clause-bytes c = (convert_none _ _ _ c.in_err-test_convert.field-0.0 c.in_err-test_convert.ensures).1

pub other_length-length-requires-clause-file : goal.other_length-length-requires-clause-file
other_length-length-requires-clause-file c = (convert_clear _ _ _ c.in_ok-test_convert.ensures).0

pub other_version-version-requires : goal.other_version-version-requires
other_version-version-requires c = record { long = (seven_bytes _ _ _ c.in_ok-test_convert.ensures).0 }

pub read_u16-count-requires : goal.read_u16-count-requires
read_u16-count-requires c = record { within = (seven_bytes _ _ _ c.in_ok-test_convert.ensures).0 }

pub write_mark-requires : goal.write_mark-requires
write_mark-requires c =
    omega (arith, seven_bytes _ _ _ c.in_ok-test_convert.ensures)

pub write_u16-requires : goal.write_u16-requires
write_u16-requires c =
    omega (arith, seven_bytes _ _ _ c.in_ok-test_convert.ensures)

pub write_u16-requires-2 : goal.write_u16-requires-2
write_u16-requires-2 c =
    omega (arith, seven_bytes _ _ _ c.in_ok-test_convert.ensures)

pub write_records-requires-clause-file : goal.write_records-requires-clause-file
write_records-requires-clause-file c = (convert_clear _ _ _ c.in_ok-test_convert.ensures).0

pub write_records-requires-clause-room : goal.write_records-requires-clause-room
write_records-requires-clause-room c =
    let (file, room) = convert_clear _ _ _ c.in_ok-test_convert.ensures in
    omega (arith, room, c.write_u16-2.auto.s, c.write_u16.auto.s, c.write_mark.auto.s)

pub returns-clause-answer : goal.returns-clause-answer
unfolding count_field round_mark ascii
returns-clause-answer c = (convert_made _ _ _ c.in_ok-test_convert.ensures c.write_mark.ensures.stored
    c.other_version-version.ensures c.write_u16.ensures.stored c.read_u16-count.ensures.value c.write_u16-2.ensures.stored
    c.write_records.ensures.stored c.other_length-length.ensures).0

pub returns-clause-bytes : goal.returns-clause-bytes
unfolding count_field round_mark ascii
returns-clause-bytes c = (convert_made _ _ _ c.in_ok-test_convert.ensures c.write_mark.ensures.stored
    c.other_version-version.ensures c.write_u16.ensures.stored c.read_u16-count.ensures.value c.write_u16-2.ensures.stored
    c.write_records.ensures.stored c.other_length-length.ensures).1
