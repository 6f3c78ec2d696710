-- `pattern_file::digits::value_unnamed` meets its contract. The invariant: each of the first v values is named. The measure: how many
-- values are left. Assumes nothing.
use Prim.Native.Nat.{suc, ◌≤◌}
use mathlib.Core.Path.{◌≡◌}
use mathlib.Core.Bool.{false, not}
use lib.ListN.{length}
use Rattle.numbers.specs.Search.{any}
use Rattle.pattern_file.specs.Naming.{names}
use Rattle.pattern_file.proofs.digits.value_unnamed.Given as goal

abbrev pub invariant-loop-v : goal.invariant-loop-v
invariant-loop-v l = (l.v ≤ l.values) × (any l.v (λ w. not (names l.digits 0 (length l.digits) (suc w))) ≡ false)
