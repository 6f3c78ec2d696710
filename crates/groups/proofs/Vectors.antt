-- The n-fold product of a group of numbers, read value by value.
-- Assumes nothing.
use mathlib.Core.Path.{◌≡◌, refl}
use Prim.Native.Nat.{ℕ, suc, ◌<◌}
use lib.IntN.{ℤ, pos, negsuc}
use lib.ListN.{get_or}
use Rattle.groups.specs.Group.{repeated, power_with, group_power, group_quotient}
use Rattle.groups.specs.Vector.{Vector, NumberGroup, number_power, vector_group}
use Rattle.groups.specs.Vector.{value_of_product, value_of_unit, value_of_inverse}
use Rattle.groups.proofs.Powers.{power_image}

module _ {P : ℕ → Type 0} (N : NumberGroup P) where
  -- v^0 is the unit
  pub number_power_zero : (v : ℕ) → number_power N v (pos 0) ≡ N.unit
  unfolding number_power power_with repeated
  number_power_zero v = refl

  -- v^(n + 1) = v^n · v
  pub number_power_suc : (v n : ℕ) → number_power N v (pos (suc n)) ≡ N.product (number_power N v (pos n)) v
  unfolding number_power power_with repeated
  number_power_suc v n = refl

  -- v^(−(n + 1)) is a power of the inverse
  pub number_power_negative : (v n : ℕ) → number_power N v (negsuc n) ≡ number_power N (N.inverse v) (pos (suc n))
  unfolding number_power power_with repeated
  number_power_negative v n = refl

module _ {P : ℕ → Type 0} (N : NumberGroup P) (n : ℕ) where
  -- the j-th value of a quotient is the quotient of the j-th values
  pub value_of_quotient : (x y : Vector P n) (j : ℕ) → j < n
      → get_or (group_quotient (vector_group N n) x y).0 j 0 ≡ N.product (get_or x.0 j 0) (N.inverse (get_or y.0 j 0))
  unfolding group_quotient vector_group
  value_of_quotient x y j h = cc (value_of_product N n x ((vector_group N n).inverse y) j h, value_of_inverse N n y j h)

  -- the j-th value of a power is the power of the j-th value
  pub value_of_power : (x : Vector P n) (k : ℤ) (j : ℕ) → j < n
      → get_or (group_power (vector_group N n) x k).0 j 0 ≡ number_power N (get_or x.0 j 0) k
  unfolding number_power vector_group
  value_of_power x k j h =
      power_image (vector_group N n) (λ (y : Vector P n). get_or y.0 j 0) N.product N.unit N.inverse
      (λ y y'. value_of_product N n y y' j h) (value_of_unit N n j h) (λ y. value_of_inverse N n y j h) x k
