-- `round_file::calls::round_of` meets its contract: a refused sheet's number is passed on, else the round is read.
-- Assumes nothing.
use Rattle.std.proofs.lemmas.Result.{err_from_is_err_and}
use Rattle.formats.specs.RoundCalls.{fetch_round, fetching}
use Rattle.formats.specs.Sheet.{header_of}
use Rattle.instance.proofs.SheetLoads.{on_fields, on_refused}
use Rattle.round_file.proofs.calls.round_of.Goals as goal

pub returns-in_err-values : goal.returns-in_err-values
unfolding fetch_round fetching
returns-in_err-values c =
    let args = c.args in
    let passed_on = err_from_is_err_and c.from_residual.result c.from_residual.ensures.1 in
    rw (passed_on.1, passed_on.2)
    (on_refused _ c.in_err-values.field-0.0 c.in_err-values.ensures.number (fetching (header_of args.sheet.now) args.file.now args.k))

pub returns : goal.returns
unfolding fetch_round
returns c =
    let args = c.args in
    on_fields _ c.in_ok-values.ensures.number c.in_ok-values.ensures.values (λ h. fetching h args.file.now args.k) c.read_in.ensures
