-- `prover::calls::respond` meets its contract: a refused sheet's number is the answer, else the call is that on the sheet's values.
-- Assumes nothing.
use Rattle.std.proofs.lemmas.Result.{err_from_is_err_and}
use Rattle.instance.proofs.SheetLoads.{on_loaded, on_refused}
use Rattle.runs.specs.Prover.{respond, responding}
use Rattle.prover.specs.Parts.{answered_step, prover_with}
use Rattle.prover.proofs.calls.respond.Goals as goal

pub returns-in_err-loaded : goal.returns-in_err-loaded
unfolding respond responding answered_step
returns-in_err-loaded c =
    let passed_on = err_from_is_err_and c.from_residual.result c.from_residual.ensures.1 in
    let refused = on_refused _ _ c.in_err-loaded.ensures.number in
    rw (passed_on.1, passed_on.2) (record {
      answer = refused (responding _ _ _ _);
      alike = λ m same. refused (responding _ _ _ _);
    })

pub returns : goal.returns
unfolding respond
returns c =
    let args = c.args in
    let told = c.in_ok-loaded.ensures in
    let given = c.respond_loaded.ensures in
    record {
      answer = on_loaded _ told.number told.values (λ inst. responding inst (prover_with args.held args.memory.now) args.challenge args.witness) given.answer;
      alike = λ m same. on_loaded _ told.number told.values (λ inst. responding inst (prover_with args.held m) args.challenge args.witness) (given.alike m same);
    }
