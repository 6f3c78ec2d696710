-- A product determines a group: two groups with one product have the same unit, inverses and powers.
-- Assumes nothing.
use Prim.Native.Nat.{ℕ, zero, suc}
use mathlib.Core.Path.{◌≡◌, sym, ap, ◌∙◌}
use lib.IntN.{ℤ, pos, negsuc}
use Rattle.groups.specs.Group.{Group, group_power, power_with, repeated}
use Rattle.groups.proofs.Groups.{inverse_unique, unit_right}

module _ {A : Type 0} (G G' : Group A) (same : (x y : A) → G.product x y ≡ G'.product x y) where
  unit_same : G.unit ≡ G'.unit
  unit_same = sym (unit_right G' G.unit) ∙ sym (same G.unit G'.unit) ∙ G.unit_left G'.unit

  pub inverse_same : (x : A) → G.inverse x ≡ G'.inverse x
  inverse_same x = inverse_unique G' x (G.inverse x) (sym (same (G.inverse x) x) ∙ G.inverse_left x ∙ unit_same)

  repeated_same : (x : A) (n : ℕ) → repeated G.product G.unit x n ≡ repeated G'.product G'.unit x n
  unfolding repeated
  repeated_same x zero = unit_same
  repeated_same x (suc n) = same _ x ∙ ap (λ (y : A). G'.product y x) (repeated_same x n)

  pub power_same : (x : A) (k : ℤ) → group_power G x k ≡ group_power G' x k
  unfolding group_power power_with
  power_same x (pos n) = repeated_same x n
  power_same x (negsuc n) =
      repeated_same (G.inverse x) (suc n) ∙ ap (λ (y : A). repeated G'.product G'.unit y (suc n)) (inverse_same x)
