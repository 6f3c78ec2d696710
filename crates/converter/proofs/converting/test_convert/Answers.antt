-- `converter::converting::test_convert` meets its contract: behind the first return the file is a round file of the sheet.
-- Assumes nothing.
use Rattle.std.proofs.lemmas.Result.{err_from_is_err_and}
use Rattle.round_layout.proofs.FileTest.{file_clear}
use Rattle.converter.proofs.FileConverting.{convert_passes, file_stops, room_stops, wide_stops}
use Rattle.converter.proofs.converting.test_convert.Goals as goal

pub returns-in_err-test_file : goal.returns-in_err-test_file
returns-in_err-test_file c =
    let passed_on = err_from_is_err_and c.from_residual.result c.from_residual.ensures.1 in
    rw (passed_on.1, passed_on.2) (file_stops _ _ _ c.in_err-test_file.field-0.0 c.in_err-test_file.ensures)

pub wide_record-requires-clause-file : goal.wide_record-requires-clause-file
wide_record-requires-clause-file c = file_clear _ _ c.in_ok-test_file.ensures

pub returns-then-wide_record : goal.returns-then-wide_record
returns-then-wide_record c =
    wide_stops _ _ _ c.in_ok-test_file.ensures c.wide_record.ensures c.if-wide_record.true

pub other_length-requires-clause-file : goal.other_length-requires-clause-file
other_length-requires-clause-file c = file_clear _ _ c.in_ok-test_file.ensures

pub returns-then-buffer-other_length : goal.returns-then-buffer-other_length
returns-then-buffer-other_length c =
    room_stops _ _ _ c.in_ok-test_file.ensures c.wide_record.ensures
    c.if-wide_record.false c.other_length.ensures c.if-buffer-other_length.true

pub returns : goal.returns
returns c =
    convert_passes _ _ _ c.in_ok-test_file.ensures c.wide_record.ensures
    c.if-wide_record.false c.other_length.ensures c.if-buffer-other_length.false
