-- Laws of powers with integer exponents, and what a homomorphism does to them.
-- Assumes nothing.
use mathlib.Core.Path.{◌≡◌, refl, sym, ap, ◌∙◌}
use Prim.Native.Nat.{ℕ, zero, suc}
use lib.IntN.{ℤ, pos, negsuc, suc_ℤ, pred_ℤ, neg_ℤ, ◌+ℤ◌, ◌-ℤ◌, ◌*ℤ◌, suc-pred, +ℤ_idr, +ℤ-suc_ℤ, +ℤ-pred_ℤ, +ℤ_invl}
use lib.IntN.{*ℤ-zero, *ℤ_comm, suc_ℤ-*ℤ, pred_ℤ-*ℤ}
use Rattle.groups.specs.Group.{Group, repeated, power_with, group_power, group_quotient}
use Rattle.groups.specs.Homomorphism.{Homomorphism}
use Rattle.groups.proofs.Groups.{unit_right, divide_multiply, multiply_divide, cancel_right, interchange}
use Rattle.groups.proofs.Groups.{inverse_unique, inverse_of_product}

-- what holds at 0 and is kept by one step up and by one step down holds at every integer
pub integer_steps : (P : ℤ → Type 0) → P (pos 0) → ((k : ℤ) → P k → P (suc_ℤ k)) → ((k : ℤ) → P k → P (pred_ℤ k)) → (k : ℤ) → P k
integer_steps P base up down (pos zero) = base
integer_steps P base up down (pos (suc n)) = up (pos n) (integer_steps P base up down (pos n))
integer_steps P base up down (negsuc zero) = down (pos 0) base
integer_steps P base up down (negsuc (suc n)) = down (negsuc n) (integer_steps P base up down (negsuc n))

module _ {A : Type 0} (G : Group A) where
  infixl 70 ◌·◌
  open G use {product as ◌·◌, unit, inverse}

  -- x^0 is the unit
  pub power_zero : (x : A) → group_power G x (pos 0) ≡ unit
  unfolding group_power power_with repeated
  power_zero x = refl

  -- x^1 is x
  pub power_one : (x : A) → group_power G x (pos 1) ≡ x
  unfolding group_power power_with repeated
  power_one x = G.unit_left x

  -- x^(k + 1) = x^k · x
  pub power_suc : (x : A) (k : ℤ) → group_power G x (suc_ℤ k) ≡ group_power G x k · x
  unfolding group_power power_with repeated
  power_suc x (pos n) = refl
  power_suc x (negsuc zero) = sym (divide_multiply G unit x)
  power_suc x (negsuc (suc n)) = sym (divide_multiply G (group_power G x (negsuc n)) x)

  -- x^(k − 1) = x^k / x
  pub power_pred : (x : A) (k : ℤ) → group_power G x (pred_ℤ k) ≡ group_power G x k · inverse x
  power_pred x k = cc (suc-pred k, power_suc x (pred_ℤ k), multiply_divide G (group_power G x (pred_ℤ k)) x)

  -- x^(j + k) = x^j · x^k
  pub power_sum : (x : A) (j k : ℤ) → group_power G x (j +ℤ k) ≡ group_power G x j · group_power G x k
  power_sum x j = integer_steps (λ k. group_power G x (j +ℤ k) ≡ group_power G x j · group_power G x k)
      (cc (+ℤ_idr j, unit_right G (group_power G x j), power_zero x))
      (λ k h. cc (+ℤ-suc_ℤ j k, power_suc x (j +ℤ k), power_suc x k, G.associative (group_power G x j) (group_power G x k) x))
      (λ k h. cc (+ℤ-pred_ℤ j k, power_pred x (j +ℤ k), power_pred x k, G.associative (group_power G x j) (group_power G x k) (inverse x)))

  -- x^(−k) is the inverse of x^k
  pub power_negation : (x : A) (k : ℤ) → group_power G x (neg_ℤ k) ≡ inverse (group_power G x k)
  power_negation x k = inverse_unique G (group_power G x k) (group_power G x (neg_ℤ k)) (cc (power_sum x (neg_ℤ k) k, +ℤ_invl k, power_zero x))

  -- x^(j − k) = x^j / x^k
  pub power_difference : (x : A) (j k : ℤ) → group_power G x (j -ℤ k) ≡ group_quotient G (group_power G x j) (group_power G x k)
  unfolding group_quotient
  power_difference x j k = cc (power_sum x j (neg_ℤ k), power_negation x k)

  -- (x^j)^k = x^(j · k)
  pub power_power : (x : A) (j k : ℤ) → group_power G (group_power G x j) k ≡ group_power G x (j *ℤ k)
  unfolding group_quotient
  power_power x j = integer_steps (λ k. group_power G (group_power G x j) k ≡ group_power G x (j *ℤ k))
      (cc (power_zero (group_power G x j), *ℤ-zero j, power_zero x))
      (λ k h. cc (power_suc (group_power G x j) k, *ℤ_comm j (suc_ℤ k), suc_ℤ-*ℤ k j, *ℤ_comm k j, power_sum x (j *ℤ k) j))
      (λ k h. cc (power_pred (group_power G x j) k, *ℤ_comm j (pred_ℤ k), pred_ℤ-*ℤ k j, *ℤ_comm k j, power_difference x (j *ℤ k) j))

  -- (x^j)^k = (x^k)^j
  pub power_swap : (x : A) (j k : ℤ) → group_power G (group_power G x j) k ≡ group_power G (group_power G x k) j
  power_swap x j k = cc (power_power x j k, power_power x k j, *ℤ_comm j k)

  -- (x · y)^k = x^k · y^k
  pub power_of_product : (x y : A) (k : ℤ) → group_power G (x · y) k ≡ group_power G x k · group_power G y k
  power_of_product x y = integer_steps (λ k. group_power G (x · y) k ≡ group_power G x k · group_power G y k)
      (cc (power_zero (x · y), power_zero x, power_zero y, G.unit_left unit))
      (λ k h. cc (power_suc (x · y) k, power_suc x k, power_suc y k, interchange G (group_power G x k) (group_power G y k) x y))
      (λ k h. cc (
        power_pred (x · y) k,
        power_pred x k,
        power_pred y k,
        inverse_of_product G x y,
        interchange G (group_power G x k) (group_power G y k) (inverse x) (inverse y),
      ))

module _ {A B : Type 0} (G : Group A) (g : A → B) (product : B → B → B) (unit : B) (inverse : B → B)
    (products : (x y : A) → g (G.product x y) ≡ product (g x) (g y))
    (units : g G.unit ≡ unit)
    (inverses : (x : A) → g (G.inverse x) ≡ inverse (g x)) where
  -- a map that respects the operations carries the product of n copies of x to that of g x
  repeated_image : (x : A) (n : ℕ) → g (repeated G.product G.unit x n) ≡ repeated product unit (g x) n
  unfolding repeated
  repeated_image x zero = units
  repeated_image x (suc n) = products _ x ∙ ap (λ (y : B). product y (g x)) (repeated_image x n)

  -- a map that respects the operations carries x^k to the power of g x
  pub power_image : (x : A) (k : ℤ) → g (group_power G x k) ≡ power_with product unit inverse (g x) k
  unfolding group_power power_with
  power_image x (pos n) = repeated_image x n
  power_image x (negsuc n) = repeated_image (G.inverse x) (suc n) ∙ ap (λ (y : B). repeated product unit y (suc n)) (inverses x)

module _ {A B : Type 0} {G : Group A} {H : Group B} (f : Homomorphism G H) where
  -- the unit is carried to the unit
  pub preserves_unit : f.map G.unit ≡ H.unit
  preserves_unit = cancel_right H (f.map G.unit) H.unit (f.map G.unit)
      (cc (f.preserves G.unit G.unit, G.unit_left G.unit, H.unit_left (f.map G.unit)))

  -- an inverse is carried to the inverse
  pub preserves_inverse : (x : A) → f.map (G.inverse x) ≡ H.inverse (f.map x)
  preserves_inverse x = inverse_unique H (f.map x) (f.map (G.inverse x))
      (cc (f.preserves (G.inverse x) x, G.inverse_left x, preserves_unit))

  -- a quotient is carried to the quotient
  pub preserves_quotient : (x y : A) → f.map (group_quotient G x y) ≡ group_quotient H (f.map x) (f.map y)
  unfolding group_quotient
  preserves_quotient x y = cc (f.preserves x (G.inverse y), preserves_inverse y)

  -- a power is carried to the power
  pub preserves_power : (x : A) (k : ℤ) → f.map (group_power G x k) ≡ group_power H (f.map x) k
  unfolding group_power
  preserves_power =
      power_image G f.map H.product H.unit H.inverse f.preserves preserves_unit preserves_inverse
