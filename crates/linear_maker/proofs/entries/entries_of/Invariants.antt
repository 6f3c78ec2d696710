-- `linear_maker::entries::entries_of` meets its contract. The invariant: the first i rows are the plan's, and those beyond hold zeros. Assumes nothing.
use mathlib.Core.List.{[]}
use Rattle.lists.proofs.Filling.{Filled}
use Rattle.linear_maker.specs.Plan.{linear_row, plan_of}
use Rattle.linear_maker.proofs.entries.entries_of.Given as goal

abbrev pub invariant-loop-i : goal.invariant-loop-i
invariant-loop-i l =
    Filled l.initial.entries l.h.rows (linear_row (plan_of l.h l.generators l.coefficients [])) l.entries l.i
