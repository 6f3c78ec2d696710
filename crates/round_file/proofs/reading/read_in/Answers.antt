-- `round_file::reading::read_in` meets its contract: a round is read at its place.
-- Assumes nothing.
use native.Mathlib.Omega.{arith}
use Rattle.std.proofs.lemmas.Result.{err_from_is_err_and}
use Rattle.round_file.proofs.FileReading.{fetch_none, fetch_record, number_small, record_fits, seven_there}
use Rattle.round_file.proofs.reading.read_in.Goals as goal

pub returns-in_err-check_in : goal.returns-in_err-check_in
returns-in_err-check_in c =
    let passed_on = err_from_is_err_and c.from_residual.result c.from_residual.ensures.1 in
    rw (passed_on.1, passed_on.2) (fetch_none _ _ _ c.in_err-check_in.field-0.0 c.in_err-check_in.ensures)

pub file_width-width-requires : goal.file_width-width-requires
file_width-width-requires c = omega (arith, seven_there _ _ _ c.in_ok-check_in.ensures)

pub record_start-requires-clause-number : goal.record_start-requires-clause-number
record_start-requires-clause-number c = omega (arith, number_small _ _ _ c.in_ok-check_in.ensures)

pub round_at-requires-clause-within : goal.round_at-requires-clause-within
round_at-requires-clause-within c =
    record_fits _ _ _ c.in_ok-check_in.ensures c.file_width-width.ensures.value c.record_start.ensures.value

pub returns : goal.returns
returns c =
    fetch_record _ _ _ c.in_ok-check_in.ensures c.file_width-width.ensures.value c.record_start.ensures.value
    c.round_at.ensures
