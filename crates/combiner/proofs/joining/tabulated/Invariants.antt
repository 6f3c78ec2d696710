-- `combiner::joining::tabulated` meets its contract. The invariant: for a g that f computes, the first i places hold its first i values,
-- and those beyond hold 0. Assumes nothing.
use Prim.Native.Nat.{ℕ, ◌<◌}
use mathlib.Core.Path.{◌≡◌}
use Rattle.lists.proofs.Filling.{Filled}
use Rattle.combiner.proofs.joining.tabulated.Given as goal

abbrev pub invariant-loop-i : goal.invariant-loop-i
invariant-loop-i g l =
    (h : ℕ → ℕ) → ((i y : ℕ) → i < l.n → goal.F-post g l.f i y → y ≡ h i) → Filled l.initial.values l.n h l.values l.i
