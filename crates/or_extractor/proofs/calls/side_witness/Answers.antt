-- `or_extractor::calls::side_witness` meets its contract: a refused pair's number is the answer, else the values of both sheets are
-- loaded.
-- Assumes nothing.
use Rattle.std.proofs.lemmas.Result.{err_from_is_err_and}
use Rattle.disjunctions.specs.Extractor.{extract_or, extracting_or}
use Rattle.pairs.proofs.PairLoads.{on_loaded_pair, on_refused_pair}
use Rattle.or_extractor.proofs.calls.side_witness.Goals as goal

pub returns-in_err-pair : goal.returns-in_err-pair
unfolding extract_or extracting_or
returns-in_err-pair c =
    let args = c.args in
    let passed_on = err_from_is_err_and c.from_residual.result c.from_residual.ensures.1 in
    rw (passed_on.1, passed_on.2)
    (on_refused_pair _ _ c.in_err-pair.field-0.0 c.in_err-pair.ensures.number (extracting_or _ _ args.a args.b))

pub returns : goal.returns
unfolding extract_or
returns c =
    let args = c.args in
    let told = c.in_ok-pair.ensures in
    on_loaded_pair _ _ told.number told.values (λ i j. extracting_or i j args.a args.b) c.extract_or_loaded.ensures
