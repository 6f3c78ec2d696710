-- `instance::loading::entries` meets its contract: it answers zeros for a refused sheet, and else what the sheet has.
-- Assumes nothing.
use mathlib.Core.Path.{sym, ap, ◌∙◌}
use native.Mathlib.Omega.{arith}
use Rattle.lists.specs.Places.{zeros8}
use Rattle.sigma.specs.Instance.{Instance}
use Rattle.formats.specs.Sheet.{zeros64}
use Rattle.formats.proofs.Loads.{entries_given, entries_refused}
use Rattle.refusals.proofs.Positive.{number_positive}
use Rattle.instance.proofs.loading.entries.Goals as goal

pub returns-in-Ok : goal.returns-in-Ok
returns-in-Ok c =
    let told = c.in-Ok.ensures in
    ap (λ (i : Instance). i.entries) told.values ∙ sym (entries_given _ (sym told.number))

pub returns-in-Err : goal.returns-in-Err
unfolding zeros64 zeros8
returns-in-Err c = sym (entries_refused _ (omega (arith, c.in-Err.ensures.number, number_positive c.in-Err.field-0)))
