-- `round_file::calls::place_of` meets its contract: a round of a refused sheet has no place, else it is found.
-- Assumes nothing.
use Rattle.std.proofs.lemmas.Result.{err_from_is_err_and}
use Rattle.formats.specs.RoundCalls.{locate_round, locating}
use Rattle.formats.specs.Sheet.{header_of}
use Rattle.instance.proofs.SheetLoads.{on_fields, on_refused}
use Rattle.round_file.proofs.calls.place_of.Goals as goal

pub returns-in_err-values : goal.returns-in_err-values
unfolding locate_round locating
returns-in_err-values c =
    let args = c.args in
    let passed_on = err_from_is_err_and c.from_residual.result c.from_residual.ensures.1 in
    rw passed_on.1
    (on_refused _ c.in_err-values.field-0.0 c.in_err-values.ensures.number (locating (header_of args.sheet.now) args.file.now args.k))

pub returns : goal.returns
unfolding locate_round
returns c =
    let args = c.args in
    on_fields _ c.in_ok-values.ensures.number c.in_ok-values.ensures.values (λ h. locating h args.file.now args.k) c.locate_in.ensures.place
