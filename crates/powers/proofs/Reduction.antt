-- Barrett's method: the upper part of t times the reciprocal of m is the quotient of t by m, or one less.
-- Assumes nothing.
use mathlib.Core.Path.{◌≡◌, sym, ap, ◌∙◌}
use Prim.Native.Nat.{ℕ, ◌+◌, ◌-◌, ◌*◌, ◌/◌, ◌%◌, ◌≤◌, ◌<◌}
use native.Mathlib.Nat.{div-add-mod', mod-lt, mul-le-mul_left, mul-le-mul_right, mul-lt-mul_of_pos_right}
use native.Mathlib.Nat.{le_of_mul-le-mul_right, lt_of_mul-lt-mul_right}
use native.Mathlib.Omega.{arith}
use lib.Arith.{digits_mod}
use Rattle.powers.proofs.HighProduct.{product_below}

-- a quotient's multiple is at most the number, and one more is above it
bounds : (n d : ℕ) → 0 < d → (n / d * d ≤ n) × (n < n / d * d + d)
bounds n d some = (omega (arith, div-add-mod' n d), omega (arith, div-add-mod' n d, mod-lt n some))

-- q is the quotient of t by m or one less, so that m is taken away from what is left at most once
pub record Reduces (t m q : ℕ) : Type 0 where
  pub low : q * m ≤ t
  pub corrected : m ≤ t - q * m → t - q * m - m ≡ t % m
  pub done : t - q * m < m → t - q * m ≡ t % m

-- in base B, with the reciprocal μ of m and the quotient q that it gives
module _ (B t m μ q : ℕ) (some : 0 < m) (fits : t < B) (is_μ : μ ≡ (B - 1) / m) (is_q : q ≡ t * μ / B) where
  -- the reciprocal times m is below B, and m more is not
  μ-bounds : (μ * m < B) × (B ≤ μ * m + m)
  μ-bounds = let (low, high) = bounds (B - 1) m some in rw is_μ (omega arith, omega arith)

  q_bounds : (q * B ≤ t * μ) × (t * μ < q * B + B)
  q_bounds = rw is_q (bounds (t * μ) B (omega arith))

  -- the quotient is not too large
  quotient_low : q * m ≤ t
  quotient_low =
      let first : q * B * m ≤ t * μ * m = mul-le-mul_right m q_bounds.0 in
      let second : t * (μ * m) ≤ t * B = mul-le-mul_left t (omega (arith, μ-bounds.0)) in
      le_of_mul-le-mul_right {k = B} (omega arith) (omega arith)

  -- and at most one too small
  quotient_high : t < q * m + m + m
  quotient_high =
      let first : t * B ≤ t * (μ * m + m) = mul-le-mul_left t μ-bounds.1 in
      let second : t * μ * m < (q * B + B) * m = mul-lt-mul_of_pos_right q_bounds.1 some in
      let third : t * m < B * m = mul-lt-mul_of_pos_right fits some in
      lt_of_mul-lt-mul_right B (omega arith)

  reduces : Reduces t m q
  reduces = record {
    low = quotient_low;
    corrected = λ more.
        let below : t - q * m - m < m = omega (arith, quotient_high) in
        let whole : (q + 1) * m + (t - q * m - m) ≡ t = omega (arith, quotient_low) in
        sym (digits_mod (q + 1) below) ∙ ap (λ (n : ℕ). n % m) whole;
    done = λ below.
        let whole : q * m + (t - q * m) ≡ t = omega (arith, quotient_low) in
        sym (digits_mod q below) ∙ ap (λ (n : ℕ). n % m) whole;
  }

-- of a product of two numbers of 32 bits
pub product_reduces : (a b m : ℕ) {μ q : ℕ} → a < 4294967296 → b < 4294967296 → 0 < m → μ ≡ 18446744073709551615 / m
    → q ≡ a * b * μ / 18446744073709551616 → Reduces (a * b) m q
product_reduces a b m a_fits b_fits some is_μ is_q =
    let fits : a * b < 18446744073709551616 = omega (arith, product_below a b a_fits b_fits) in
    reduces 18446744073709551616 (a * b) m _ _ some fits is_μ is_q
