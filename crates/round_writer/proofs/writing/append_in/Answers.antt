-- `round_writer::writing::append_in` meets its contract: the part that is lent comes back with the record at its start.
-- Assumes nothing.
use native.Mathlib.Omega.{arith}
use Rattle.std.proofs.lemmas.Result.{err_from_is_err_and}
use lib.ListN.{length-take, length-drop}
use Rattle.formats.specs.RoundFile.{count_field}
use Rattle.round_writer.proofs.FileWriting.{append_none, append_record, record_room, seven_used}
use Rattle.round_writer.proofs.writing.append_in.Goals as goal

pub returns-in_err-test_append-clause-answer : goal.returns-in_err-test_append-clause-answer
returns-in_err-test_append-clause-answer c =
    let passed_on = err_from_is_err_and c.from_residual.result c.from_residual.ensures.1 in
    rw (passed_on.1, passed_on.2) (append_none _ _ _ _ c.in_err-test_append.field-0.0 c.in_err-test_append.ensures).0

pub returns-in_err-test_append-clause-bytes : goal.returns-in_err-test_append-clause-bytes
returns-in_err-test_append-clause-bytes c = (append_none _ _ _ _ c.in_err-test_append.field-0.0 c.in_err-test_append.ensures).1

pub read_u16-count-requires : goal.read_u16-count-requires
read_u16-count-requires c =
    omega (arith, seven_used _ _ _ _ c.in_ok-test_append.ensures)

pub file_width-width-requires : goal.file_width-width-requires
file_width-width-requires c =
    omega (arith, seven_used _ _ _ _ c.in_ok-test_append.ensures)

pub overflow_add-length : goal.overflow_add-length
overflow_add-length c =
    omega (arith, record_room _ _ _ _ c.in_ok-test_append.ensures c.file_width-width.ensures.value)

pub slice_bounds-write_record-count : goal.slice_bounds-write_record-count
slice_bounds-write_record-count c =
    omega (arith, record_room _ _ _ _ c.in_ok-test_append.ensures c.file_width-width.ensures.value)

pub slice_bounds-write_record-start : goal.slice_bounds-write_record-start
slice_bounds-write_record-start c =
    omega (arith, record_room _ _ _ _ c.in_ok-test_append.ensures c.file_width-width.ensures.value)

pub write_record-requires : goal.write_record-requires
write_record-requires c =
    let room = record_room _ _ _ _ c.in_ok-test_append.ensures c.file_width-width.ensures.value in
    record {
      rows = omega arith;
      columns = omega arith;
      width = c.file_width-width.ensures.known;
      room = simp (length-take, length-drop) (omega arith);
    }

pub write_u16-requires : goal.write_u16-requires
write_u16-requires c =
    omega (arith, seven_used _ _ _ _ c.in_ok-test_append.ensures)

pub returns-clause-answer : goal.returns-clause-answer
unfolding count_field
returns-clause-answer c = (append_record _ _ _ _ c.in_ok-test_append.ensures c.read_u16-count.ensures.value
    c.file_width-width.ensures.value c.record_length.ensures.value c.write_record.ensures.stored
    c.write_u16.ensures.stored).0

pub returns-clause-bytes : goal.returns-clause-bytes
unfolding count_field
returns-clause-bytes c = (append_record _ _ _ _ c.in_ok-test_append.ensures c.read_u16-count.ensures.value
    c.file_width-width.ensures.value c.record_length.ensures.value c.write_record.ensures.stored
    c.write_u16.ensures.stored).1
