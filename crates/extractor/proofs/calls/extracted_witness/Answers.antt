-- `extractor::calls::extracted_witness` meets its contract: a refused sheet's number is the answer, else its values are loaded.
-- Assumes nothing.
use Rattle.std.proofs.lemmas.Result.{err_from_is_err_and}
use Rattle.runs.specs.Calls.{extract_witness}
use Rattle.sigma.specs.Extractor.{extracting, extract_loaded}
use Rattle.instance.proofs.SheetLoads.{on_loaded, on_refused}
use Rattle.extractor.proofs.calls.extracted_witness.Goals as goal

pub returns-in_err-loaded : goal.returns-in_err-loaded
unfolding extract_witness extracting
returns-in_err-loaded c =
    let args = c.args in
    let passed_on = err_from_is_err_and c.from_residual.result c.from_residual.ensures.1 in
    rw (passed_on.1, passed_on.2) (on_refused _ _ c.in_err-loaded.ensures.number (extracting _ args.first args.second))

pub returns : goal.returns
unfolding extract_witness extract_loaded
returns c =
    let args = c.args in
    let told = c.in_ok-loaded.ensures in
    on_loaded _ told.number told.values (λ inst. extracting inst args.first args.second) c.extract_loaded.ensures
