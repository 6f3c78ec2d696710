-- `image::response` meets its contract. The invariant: the first j places hold the first j slots, and those beyond hold 0.
-- The measure: how many columns are left. Assumes nothing.
use Prim.Native.Nat.{◌-◌}
use lib.ListN.{get_or}
use Rattle.lists.proofs.Filling.{Filled}
use Rattle.sigma.specs.Round.{response_coordinate}
use Rattle.image.proofs.response.Given as goal

abbrev pub invariant-loop-j : goal.invariant-loop-j
invariant-loop-j l =
    Filled l.initial.values l.columns (λ slot. response_coordinate l.h (get_or l.k slot 0) l.c (get_or l.x slot 0)) l.values l.j

abbrev pub decreases-loop-j : goal.decreases-loop-j
decreases-loop-j l = l.columns - l.j
