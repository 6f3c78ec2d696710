-- `verifier::calls::with_challenge` meets its contract: a refused sheet's number is the answer, else the sheet is loaded.
-- Assumes nothing.
use Rattle.std.proofs.lemmas.Result.{err_from_is_err_and}
use Rattle.runs.specs.Verifier.{take_challenge, taking_challenge}
use Rattle.instance.proofs.SheetLoads.{on_loaded, on_refused}
use Rattle.verifier.proofs.calls.with_challenge.Goals as goal

pub returns-in_err-loaded : goal.returns-in_err-loaded
unfolding take_challenge taking_challenge
returns-in_err-loaded c =
    let passed_on = err_from_is_err_and c.from_residual.result c.from_residual.ensures.1 in
    rw (passed_on.1, passed_on.2) (on_refused _ _ c.in_err-loaded.ensures.number (taking_challenge _ _ _))

pub returns : goal.returns
unfolding take_challenge
returns c =
    let args = c.args in
    let told = c.in_ok-loaded.ensures in
    on_loaded _ told.number told.values (λ inst. taking_challenge inst args.session args.challenge) (c.take_challenge_loaded.ensures _ _)
