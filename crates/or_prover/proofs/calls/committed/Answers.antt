-- `or_prover::calls::committed` meets its contract: a refused pair's number is the answer, else the values of both sheets are loaded.
-- Assumes nothing.
use Rattle.std.proofs.lemmas.Result.{err_from_is_err_and}
use Rattle.disjunctions.specs.Prover.{commit_or, committing_or}
use Rattle.pairs.proofs.PairLoads.{on_loaded_pair, on_refused_pair}
use Rattle.or_prover.proofs.calls.committed.Goals as goal

pub returns-in_err-pair : goal.returns-in_err-pair
unfolding commit_or committing_or
returns-in_err-pair c =
    let args = c.args in
    let passed_on = err_from_is_err_and c.from_residual.result c.from_residual.ensures.1 in
    rw (passed_on.1, passed_on.2)
    (on_refused_pair _ _ c.in_err-pair.field-0.0 c.in_err-pair.ensures.number (committing_or _ _ args.session args.side args.nonce args.challenge args.response))

pub returns : goal.returns
unfolding commit_or
returns c =
    let args = c.args in
    let told = c.in_ok-pair.ensures in
    on_loaded_pair _ _ told.number told.values (λ i j. committing_or i j args.session args.side args.nonce args.challenge args.response) c.commit_loaded.ensures
