-- `linear_maker::entries::row_of` meets its contract. The invariant: the first j places hold the row's first j entries, and those beyond
-- hold 0. Assumes nothing.
use mathlib.Core.List.{[]}
use Rattle.lists.proofs.Filling.{Filled}
use Rattle.linear_forms.specs.Linear.{linear_entry}
use Rattle.linear_maker.specs.Plan.{plan_of}
use Rattle.linear_maker.proofs.entries.row_of.Given as goal

abbrev pub invariant-loop-j : goal.invariant-loop-j
invariant-loop-j l =
    Filled l.initial.row l.h.columns (linear_entry (plan_of l.h l.generators l.coefficients []) l.i) l.row l.j
