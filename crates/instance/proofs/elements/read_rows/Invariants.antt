-- `instance::elements::read_rows` meets its contract. The invariant: the first i places hold the first i rows, and those beyond
-- hold zeros. The measure: how many rows are left. Assumes nothing.
use Prim.Native.Nat.{◌-◌}
use Rattle.lists.specs.Places.{pad8, tabulate}
use Rattle.lists.proofs.Filling.{Filled}
use Rattle.instance.specs.Rows.{entry_at}
use Rattle.instance.proofs.elements.read_rows.Given as goal

abbrev pub invariant-loop-i : goal.invariant-loop-i
invariant-loop-i l = Filled l.initial.rows l.n (λ k. pad8 0 (tabulate l.columns (entry_at l.sheet l.columns k))) l.rows l.i

abbrev pub decreases-loop-i : goal.decreases-loop-i
decreases-loop-i l = l.n - l.i
