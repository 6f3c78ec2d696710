-- `verifier::loaded::take_response_loaded` meets its contract: the test decides the outcome.
-- Assumes nothing.
use Rattle.std.proofs.lemmas.Result.{err_from_is_err_and}
use Rattle.refusals.proofs.Positive.{call_answered, call_refused}
use Rattle.runs.specs.Verifier.{taking_response}
use Rattle.verifier.proofs.loaded.take_response_loaded.Goals as goal

pub returns-in_err-test_response : goal.returns-in_err-test_response
unfolding taking_response
returns-in_err-test_response c =
    let passed_on = err_from_is_err_and c.from_residual.result c.from_residual.ensures.1 in
    rw (passed_on.1, passed_on.2)
    (call_refused (taking_response _ _ _) c.in_err-test_response.field-0.0 (c.in_err-test_response.ensures _ _))

pub returns : goal.returns
unfolding taking_response
returns c =
    rw c.verdict.ensures (call_answered (taking_response _ _ _) (c.in_ok-test_response.ensures _ _))
