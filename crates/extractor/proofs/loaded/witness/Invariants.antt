-- `extractor::loaded::witness` meets its contract. The invariant: the first j places hold the first j slots, and those beyond hold 0.
-- The measure: how many columns are left. Assumes nothing.
use Prim.Native.Nat.{◌-◌}
use lib.IntN.{pos, neg_ℤ}
use lib.ListN.{get_or}
use Rattle.lists.proofs.Filling.{Filled}
use Rattle.sigma.specs.Extractor.{slot_formula}
use Rattle.extractor.proofs.loaded.witness.Given as goal

abbrev pub invariant-loop-j : goal.invariant-loop-j
invariant-loop-j l =
    Filled l.initial.values l.columns (λ slot. slot_formula l.h (get_or l.statement slot 0) (neg_ℤ (pos l.a)) (pos l.b) (get_or l.r slot 0) (get_or l.s slot 0)) l.values l.j

abbrev pub decreases-loop-j : goal.decreases-loop-j
decreases-loop-j l = l.columns - l.j
