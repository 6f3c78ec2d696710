-- `verifier::loaded::take_challenge_loaded` meets its contract: the test decides the outcome.
-- Assumes nothing.
use Rattle.std.proofs.lemmas.Result.{err_from_is_err_and}
use Rattle.refusals.proofs.Positive.{call_answered, call_refused}
use Rattle.runs.specs.Verifier.{taking_challenge}
use Rattle.verifier.proofs.loaded.take_challenge_loaded.Goals as goal

pub returns-in_err-test_challenge : goal.returns-in_err-test_challenge
unfolding taking_challenge
returns-in_err-test_challenge c = λ entries statement.
    let passed_on = err_from_is_err_and c.from_residual.result c.from_residual.ensures.1 in
    rw (passed_on.1, passed_on.2)
    (call_refused (taking_challenge _ _ _) c.in_err-test_challenge.field-0.0 (c.in_err-test_challenge.ensures entries statement))

pub returns : goal.returns
unfolding taking_challenge
returns c = λ entries statement.
    call_answered (taking_challenge _ _ _) (c.in_ok-test_challenge.ensures entries statement)
