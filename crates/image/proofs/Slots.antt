-- One value: a product whose second factor is reduced first, and a slot of the response.
-- Assumes nothing.
use mathlib.Core.Path.{◌≡◌, sym, ◌∙◌}
use mathlib.Core.Logic.{◌≢◌}
use Prim.Native.Nat.{ℕ, ◌+◌, ◌*◌, ◌%◌, ◌^◌}
use Rattle.types.specs.declared.Header.{Header}
use Rattle.numbers.proofs.Congruence.{mod_mul_right}
use Rattle.sigma.specs.Round.{response_coordinate}
use Rattle.sigma.proofs.ByKind.{response_coordinate_exponent, response_coordinate_root}

-- a product whose second factor was reduced
pub product_reduced : (m a b : ℕ) {power value : ℕ} → power ≡ b % m → value ≡ a * power % m → value ≡ a * b % m
product_reduced m a b is_power is_value = rw (is_value, is_power) (mod_mul_right m a b)

module _ (h : Header) where
  -- a slot of the response in kind 1
  pub response_exponent : (k c x : ℕ) → h.kind ≡ 1 → (k + c * x) % h.order ≡ response_coordinate h k c x
  response_exponent k c x kind = sym (response_coordinate_exponent h kind k c x)

  -- a slot of the response in kind 2
  pub response_root : (k c x : ℕ) {power value : ℕ} → h.kind ≢ 1 → power ≡ x ^ c % h.modulus → value ≡ k * power % h.modulus
      → value ≡ response_coordinate h k c x
  response_root k c x kind is_power is_value =
      product_reduced h.modulus k (x ^ c) is_power is_value ∙ sym (response_coordinate_root h kind k c x)
