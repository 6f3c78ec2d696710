-- What a search that may find none answers, by the first that passes, and what its answer tells of that.
-- Assumes nothing.
use Prim.Native.Nat.{ℕ, ◌≤◌, ◌<◌}
use mathlib.Core.Path.{◌≡◌}
use native.Mathlib.Decide.{dec_lt}
use native.Mathlib.Omega.{arith}
use borrow.Author.Tests.{le-ltb, lt-ltb}
use Rattle.std.specs.Prelude.{Some, None}
use Rattle.solver.specs.Match.{found}

module _ {count k first : ℕ} where
  -- a candidate that is the first
  pub found_here : k < count → k ≡ first → Some k ≡ found count first
  unfolding found
  found_here inside same = rw (← same, lt-ltb k count inside)

  -- what is answered is the first, and a candidate
  pub found_is : Some k ≡ found count first → (k ≡ first) × (k < count)
  unfolding found
  found_is e = elim (dec_lt first count) [
    | yes inside ↦ let same = rw (lt-ltb first count inside) at e in let is_first : k ≡ first = cc in (is_first, omega arith)
    | no past ↦ let none = rw (le-ltb first count (omega arith)) at e in absurd cc
  ]

module _ {count first : ℕ} where
  -- where none passes, count stands for the first
  pub found_none : count ≡ first → None ≡ found count first
  unfolding found
  found_none same = rw (le-ltb first count (omega arith))

  -- none is answered where there is none
  pub none_found : None ≡ found count first → count ≤ first
  unfolding found
  none_found e = elim (dec_lt first count) [
    | yes inside ↦ let same = rw (lt-ltb first count inside) at e in absurd cc
    | no past ↦ omega arith
  ]
