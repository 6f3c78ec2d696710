-- `round_file::reading::locate_in` meets its contract: a round that passes is one of at most 512.
-- Assumes nothing.
use native.Mathlib.Omega.{arith}
use Rattle.std.proofs.lemmas.Result.{err_from_is_err_and}
use Rattle.round_file.proofs.FileReading.{number_small, place_none, place_record, seven_there}
use Rattle.round_file.proofs.reading.locate_in.Goals as goal

pub returns-in_err-check_in-clause-place : goal.returns-in_err-check_in-clause-place
returns-in_err-check_in-clause-place c =
    let passed_on = err_from_is_err_and c.from_residual.result c.from_residual.ensures.1 in
    rw passed_on.1 (place_none _ _ _ c.in_err-check_in.field-0.0 c.in_err-check_in.ensures)

pub file_width-width-requires : goal.file_width-width-requires
file_width-width-requires c = omega (arith, seven_there _ _ _ c.in_ok-check_in.ensures)

pub record_start-requires-clause-number : goal.record_start-requires-clause-number
record_start-requires-clause-number c = omega (arith, number_small _ _ _ c.in_ok-check_in.ensures)

pub returns-clause-place : goal.returns-clause-place
returns-clause-place c =
    place_record _ _ _ c.in_ok-check_in.ensures c.file_width-width.ensures.value c.record_start.ensures.value
    c.record_length.ensures.value
