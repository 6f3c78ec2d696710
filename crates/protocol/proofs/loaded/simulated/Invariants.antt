-- `protocol::loaded::simulated` meets its contract. The invariant: the first i places hold the first i rows, and those beyond hold 0.
-- The measure: how many rows are left. Assumes nothing.
use Prim.Native.Nat.{◌-◌}
use Rattle.lists.proofs.Filling.{Filled}
use Rattle.instance.specs.Values.{values_of}
use Rattle.protocol.proofs.Simulating.{simulated_row}
use Rattle.protocol.proofs.loaded.simulated.Given as goal

abbrev pub invariant-loop-i : goal.invariant-loop-i
invariant-loop-i l =
    Filled l.initial.values l.rows (simulated_row (values_of l.sheet) l.c l.r) l.values l.i

abbrev pub decreases-loop-i : goal.decreases-loop-i
decreases-loop-i l = l.rows - l.i
