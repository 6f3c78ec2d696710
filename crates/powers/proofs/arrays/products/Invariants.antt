-- `powers::arrays::products` meets its contract. The invariant: the first i places hold the first i products, and those beyond
-- hold 0. Assumes nothing.
use Prim.Native.Nat.{◌*◌, ◌%◌}
use lib.ListN.{get_or}
use Rattle.lists.proofs.Filling.{Filled}
use Rattle.powers.proofs.arrays.products.Given as goal

abbrev pub invariant-loop-i : goal.invariant-loop-i
invariant-loop-i l = Filled l.initial.values l.n (λ place. get_or l.xs place 0 * get_or l.ys place 0 % l.m) l.values l.i
