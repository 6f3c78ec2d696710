-- `round_file::reading::check_in` meets its contract: each return is a law of checking.
-- Assumes nothing.
use native.Mathlib.Omega.{arith}
use Rattle.std.proofs.lemmas.Result.{err_from_is_err_and}
use Rattle.round_file.proofs.FileReading.{check_file, check_beyond, check_passes, count_found, count_number}
use Rattle.round_file.proofs.reading.check_in.Goals as goal

pub returns-in_err-count : goal.returns-in_err-count
returns-in_err-count c =
    let passed_on = err_from_is_err_and c.from_residual.result c.from_residual.ensures.1 in
    rw (passed_on.1, passed_on.2) (check_file _ _ _ c.in_err-count.field-0.0 (count_number _ _ c.in_err-count.ensures))

pub returns-then-count-k : goal.returns-then-count-k
returns-then-count-k c =
    check_beyond _ _ _ (count_number _ _ c.in_ok-count.ensures) (omega (arith, count_found _ _ c.in_ok-count.ensures))

pub returns : goal.returns
returns c = check_passes _ _ _ (count_number _ _ c.in_ok-count.ensures) (omega (arith, count_found _ _ c.in_ok-count.ensures))
