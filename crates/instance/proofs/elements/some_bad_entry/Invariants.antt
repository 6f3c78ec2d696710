-- `instance::elements::some_bad_entry` meets its contract. The invariant: no row before i is bad. The measure: how many rows are
-- left. Assumes nothing.
use Prim.Native.Nat.{◌-◌, ◌≤◌}
use mathlib.Core.Path.{◌≡◌}
use mathlib.Core.Bool.{false}
use Rattle.numbers.specs.Search.{any}
use Rattle.instance.specs.Rows.{is_bad_row}
use Rattle.instance.proofs.elements.some_bad_entry.Given as goal

abbrev pub invariant-loop-i : goal.invariant-loop-i
invariant-loop-i l = (l.i ≤ l.rows) × (any l.i (is_bad_row l.h l.entries) ≡ false)

abbrev pub decreases-loop-i : goal.decreases-loop-i
decreases-loop-i l = l.rows - l.i
