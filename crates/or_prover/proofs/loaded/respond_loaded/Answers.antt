-- `or_prover::loaded::respond_loaded` meets its contract: the tests decide, and each side answers its own challenge.
-- Assumes nothing.
use mathlib.Core.Path.{refl}
use native.Mathlib.Nat.{le_of_lt}
use native.Mathlib.Omega.{arith}
use Rattle.std.proofs.lemmas.Result.{err_from_is_err_and}
use Rattle.refusals.proofs.Positive.{call_refused}
use Rattle.disjunctions.specs.Prover.{responding_or}
use Rattle.or_judge.proofs.Verdicts.{pair_fits}
use Rattle.or_prover.proofs.Given.{respond_given}
use Rattle.or_prover.proofs.Tested.{respond_below}
use Rattle.or_prover.proofs.loaded.respond_loaded.Goals as goal

pub returns-in_err-test_response : goal.returns-in_err-test_response
unfolding responding_or
returns-in_err-test_response c =
    let args = c.args in
    let passed_on = err_from_is_err_and c.from_residual.result c.from_residual.ensures.1 in
    rw (passed_on.1, passed_on.2)
    (call_refused (responding_or _ _ args.session args.challenge args.witness) c.in_err-test_response.field-0.0
    c.in_err-test_response.ensures)

pub other_challenge-d-requires : goal.other_challenge-d-requires
other_challenge-d-requires c =
    let fit = pair_fits c.args.pair.now in (
      omega (arith, fit.first.table.some_challenges),
      le_of_lt (respond_below fit _ _ _ c.in_ok-test_response.ensures refl),
    )

pub returns : goal.returns
returns c =
    respond_given _ _ _ _ _ c.in_ok-test_response.ensures refl c.other_challenge-d.ensures.value
    c.wiped.ensures c.side_response.ensures c.side_response-2.ensures c.own.ensures
