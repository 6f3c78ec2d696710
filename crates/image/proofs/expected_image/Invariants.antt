-- `image::expected_image` meets its contract. The invariant: the first i places hold the first i rows, and those beyond hold 0.
-- The measure: how many rows are left. Assumes nothing.
use Prim.Native.Nat.{◌-◌, ◌*◌, ◌%◌, ◌^◌}
use lib.ListN.{get_or}
use Rattle.lists.proofs.Filling.{Filled}
use Rattle.image.proofs.expected_image.Given as goal

abbrev pub invariant-loop-i : goal.invariant-loop-i
invariant-loop-i l =
    Filled l.initial.values l.rows (λ row. get_or l.t row 0 * get_or l.statement row 0 ^ l.c % l.h.modulus) l.values l.i

abbrev pub decreases-loop-i : goal.decreases-loop-i
decreases-loop-i l = l.rows - l.i
