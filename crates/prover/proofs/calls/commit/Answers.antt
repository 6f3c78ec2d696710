-- `prover::calls::commit` meets its contract: a refused sheet's number is the answer, else the call is that on the sheet's values.
-- Assumes nothing.
use Rattle.std.proofs.lemmas.Result.{err_from_is_err_and}
use Rattle.instance.proofs.SheetLoads.{on_loaded, on_refused}
use Rattle.runs.specs.Prover.{commit, committing}
use Rattle.prover.specs.Parts.{committed_step, prover_with}
use Rattle.prover.proofs.calls.commit.Goals as goal

pub returns-in_err-loaded : goal.returns-in_err-loaded
unfolding commit committing committed_step
returns-in_err-loaded c = λ m.
    let passed_on = err_from_is_err_and c.from_residual.result c.from_residual.ensures.1 in
    rw (passed_on.1, passed_on.2) (on_refused _ _ c.in_err-loaded.ensures.number (committing _ _ _))

pub returns : goal.returns
unfolding commit
returns c = λ m.
    let args = c.args in
    let told = c.in_ok-loaded.ensures in
    on_loaded _ told.number told.values (λ inst. committing inst (prover_with args.held m) args.nonce) (c.commit_loaded.ensures m)
