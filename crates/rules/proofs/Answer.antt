-- What a refusal's number chooses: the value if it is 0, else the other.
-- Assumes nothing.
use Prim.Native.Nat.{ℕ, ◌<◌}
use mathlib.Core.Path.{◌≡◌, refl}
use native.Mathlib.Omega.{arith}
use borrow.Author.Tests.{ne_eqb}
use Rattle.rules.specs.Answer.{unless_refused}

module _ {ℓ} {A : Type ℓ} (value other : A) where
  -- if nothing is refused the value is given
  pub unless_refused_zero : unless_refused 0 value other ≡ value
  unfolding unless_refused
  unless_refused_zero = refl

  -- if a refusal has a number the other is given
  pub unless_refused_positive : (n : ℕ) → 0 < n → unless_refused n value other ≡ other
  unfolding unless_refused
  unless_refused_positive n h = rw (ne_eqb n 0 (λ (e : n ≡ 0). omega arith))
