-- `solver::roots::fill_roots` meets its contract. The invariant: each place holds the smallest root among the numbers below r.
-- Assumes nothing.
use Prim.Native.Nat.{◌≤◌}
use Rattle.solver.specs.Prepared.{Roots}
use Rattle.solver.proofs.roots.fill_roots.Given as goal

abbrev pub invariant-loop-r : goal.invariant-loop-r
invariant-loop-r l = (l.r ≤ l.h.modulus) × Roots l.h l.r l.table
