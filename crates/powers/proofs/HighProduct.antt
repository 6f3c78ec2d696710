-- The upper half of a product of two numbers of 64 bits, column by column in base 2^32, as in multiplying by hand.
-- Assumes nothing.
use mathlib.Core.Path.{◌≡◌, sym, ap, ap₂, ◌∙◌}
use Prim.Native.Nat.{ℕ, ◌+◌, ◌*◌, ◌/◌, ◌%◌, ◌≤◌, ◌<◌}
use native.Mathlib.Nat.{div-add-mod', mul-le-mul}
use native.Mathlib.Omega.{arith}
use lib.Arith.{digits_div}

-- a product of two numbers of 32 bits
pub product_below : (a b : ℕ) → a < 4294967296 → b < 4294967296 → a * b ≤ 18446744065119617025
product_below a b h k = mul-le-mul {n₂ = 4294967295} {m₂ = 4294967295} (omega arith) (omega arith)

-- the product by what each column leaves and carries
columns : (u₀ u₁ v₀ v₁ q₀ r₀ q₁ r₁ q₂ r₂ : ℕ) → q₀ * 4294967296 + r₀ ≡ u₀ * v₀ → q₁ * 4294967296 + r₁ ≡ u₁ * v₀ + q₀
    → q₂ * 4294967296 + r₂ ≡ r₁ + u₀ * v₁
    → (u₁ * 4294967296 + u₀) * (v₁ * 4294967296 + v₀) ≡ (u₁ * v₁ + q₁ + q₂) * 18446744073709551616 + (r₂ * 4294967296 + r₀)
columns u₀ u₁ v₀ v₁ q₀ r₀ q₁ r₁ q₂ r₂ e₀ e₁ e₂ = omega arith

module _ (u v : ℕ) where
  -- the halves of each number
  abbrev u₀ : ℕ
  u₀ = u % 4294967296

  abbrev u₁ : ℕ
  u₁ = u / 4294967296

  abbrev v₀ : ℕ
  v₀ = v % 4294967296

  abbrev v₁ : ℕ
  v₁ = v / 4294967296

  -- what the second column and the third add up to
  abbrev middle : ℕ
  middle = u₁ * v₀ + u₀ * v₀ / 4294967296

  abbrev next : ℕ
  next = middle % 4294967296 + u₀ * v₁

  -- the last column is the upper half
  pub upper_half : u₁ * v₁ + middle / 4294967296 + next / 4294967296 ≡ u * v / 18446744073709551616
  upper_half =
      let small : next % 4294967296 * 4294967296 + u₀ * v₀ % 4294967296 < 18446744073709551616 = omega arith in
      sym (ap₂ (λ (a b : ℕ). a * b / 18446744073709551616) (sym (div-add-mod' u 4294967296)) (sym (div-add-mod' v 4294967296))
      ∙ ap (λ (n : ℕ). n / 18446744073709551616)
      (columns u₀ u₁ v₀ v₁ _ _ _ _ _ _ (div-add-mod' (u₀ * v₀) 4294967296) (div-add-mod' middle 4294967296) (div-add-mod' next 4294967296))
      ∙ digits_div (u₁ * v₁ + middle / 4294967296 + next / 4294967296) small)

  -- the product of two halves fits 64 bits, with room for what is carried
  pub halves_below : u < 18446744073709551616 → v < 18446744073709551616
      → (u₀ * v₀ ≤ 18446744065119617025) × (u₁ * v₀ ≤ 18446744065119617025) × (u₀ * v₁ ≤ 18446744065119617025)
      × (u₁ * v₁ ≤ 18446744065119617025)
  halves_below u_fits v_fits = (
    product_below _ _ (omega arith) (omega arith),
    product_below _ _ (omega arith) (omega arith),
    product_below _ _ (omega arith) (omega arith),
    product_below _ _ (omega arith) (omega arith),
  )
