-- `round_lines::rounds::write_rounds` meets its contract. The invariant: the lines of the first k rounds are stored, and the flag
-- says whether one of them fails. The measure: how many rounds are left.
-- Assumes nothing.
use Prim.Native.Nat.{◌≤◌, ◌-◌}
use mathlib.Core.Path.{◌≡◌}
use lib.ListN.{length}
use Rattle.encoding.specs.Placed.{Fitted}
use Rattle.instance.specs.Values.{values_of}
use Rattle.round_lines.specs.Lines.{fails_in, lines_in}
use Rattle.round_lines.proofs.rounds.write_rounds.Given as goal

abbrev pub invariant-loop-k : goal.invariant-loop-k
invariant-loop-k l =
    Fitted l.initial.text l.at (lines_in (values_of l.sheet) l.file l.k) l.text l.next
    × (l.failed ≡ fails_in (values_of l.sheet) l.file l.k)
    × (l.k ≤ l.count)
    × (length l.text ≡ length l.initial.text)

abbrev pub decreases-loop-k : goal.decreases-loop-k
decreases-loop-k l = l.count - l.k
