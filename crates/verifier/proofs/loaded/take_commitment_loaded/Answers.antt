-- `verifier::loaded::take_commitment_loaded` meets its contract: the test decides the outcome.
-- Assumes nothing.
use Rattle.std.proofs.lemmas.Result.{err_from_is_err_and}
use Rattle.refusals.proofs.Positive.{call_answered, call_refused}
use Rattle.runs.specs.Verifier.{taking_commitment}
use Rattle.verifier.proofs.loaded.take_commitment_loaded.Goals as goal

pub returns-in_err-test_commitment : goal.returns-in_err-test_commitment
unfolding taking_commitment
returns-in_err-test_commitment c = λ entries statement.
    let passed_on = err_from_is_err_and c.from_residual.result c.from_residual.ensures.1 in
    rw (passed_on.1, passed_on.2)
    (call_refused (taking_commitment _ _ _) c.in_err-test_commitment.field-0.0 (c.in_err-test_commitment.ensures entries statement))

pub returns : goal.returns
unfolding taking_commitment
returns c = λ entries statement.
    rw c.first_places.ensures (call_answered (taking_commitment _ _ _) (c.in_ok-test_commitment.ensures entries statement))
