-- Powers beside a bound: those of 0 and 1, a factor more, a product that is above the bound before the last factor, and one
-- below a power of two.
-- Assumes nothing.
use Prim.Native.Nat.{ℕ, zero, suc, ◌+◌, ◌-◌, ◌*◌, ◌/◌, ◌^◌, ◌≤◌, ◌<◌}
use mathlib.Core.Path.{◌≡◌, sym, ap, ◌∙◌}
use mathlib.Core.Logic.{◌≢◌}
use native.Mathlib.Nat.{mul_assoc, mul-one, mul-zero, mul-le-mul, le_refl, div-lt_iff_lt-mul, le-div_iff_mul-le}
use native.Mathlib.Nat.{pow-zero, pow-suc, pow-succ', pow-le-pow_right, two-pow-succ}
use native.Mathlib.Numerals.{add-one}
use native.Mathlib.Omega.{arith}
use lib.Arith.{digits_div}
use lib.Pow.{pow_mono}
use Rattle.numbers.proofs.Powers.{one_pow, pow_one}

-- a power of 0 or 1 by more than 0 is its base
pub small_power : (b e : ℕ) → b < 2 → e ≢ 0 → b ^ e ≡ b
small_power b zero small some = absurd (some (omega arith))
small_power zero (suc e) small some = pow-suc 0 e ∙ mul-zero (0 ^ e)
small_power (suc b) (suc e) small some =
    let is_one : suc b ≡ 1 = omega arith in
    ap (λ (x : ℕ). x ^ suc e) is_one ∙ one_pow (suc e) ∙ sym is_one

module _ (p b left whole : ℕ) (kept : p * b ^ left ≡ whole) (more : 0 < left) where
  -- one factor is multiplied in, and one less is left
  pub factor_more : p * b * b ^ (left - 1) ≡ whole
  factor_more =
      let next : suc (left - 1) ≡ left = omega arith in
      mul_assoc p b (b ^ (left - 1)) ∙ ap (λ (x : ℕ). p * x) (sym (pow-succ' b (left - 1)) ∙ ap (λ (x : ℕ). b ^ x) next) ∙ kept

  -- a product that is above the bound with one factor more is above it with all that are left
  pub above_early : (bound : ℕ) → 0 < b → bound / b < p → bound < whole
  above_early bound some above =
      let next = (div-lt_iff_lt-mul {k = b} {x = bound} {y = p} some).0 above in
      let factor = rw (pow_one b) at (pow-le-pow_right {n = b} some {i = 1} {j = left} more) in
      omega (arith, kept, mul-le-mul (le_refl p) factor)

-- where no factor is left, the product is the whole power
pub no_factor_left : (p b left whole : ℕ) → p * b ^ left ≡ whole → left ≤ 0 → p ≡ whole
no_factor_left p b left whole kept none =
    let zero_left : left ≡ 0 = omega arith in
    sym (ap (λ (e : ℕ). p * b ^ e) zero_left ∙ ap (λ (x : ℕ). p * x) (pow-zero b) ∙ mul-one p) ∙ kept

-- a product that is not above the bound with one factor more
pub product_inside : (p b bound : ℕ) → 0 < b → p ≤ bound / b → p * b ≤ bound
product_inside p b bound some inside = (le-div_iff_mul-le {k = b} {x = p} {y = bound} some).0 inside

-- a power so far that is above the bound with one factor more is above it with all
pub power_above_early : (b i e bound p : ℕ) → p ≡ b ^ i → i < e → 0 < b → bound / b < p → bound < b ^ e
power_above_early b i e bound p is_power more some above =
    let next = (div-lt_iff_lt-mul {k = b} {x = bound} {y = p} some).0 above in
    let factor = pow-le-pow_right {n = b} some {i = suc i} {j = e} (omega arith) in
    omega (arith, ap (λ (x : ℕ). x * b) is_power, pow-suc b i, factor, next)

module _ (value done : ℕ) (below : value + 1 ≡ 2 ^ done) where
  -- one below a power of two, doubled and one more, is one below the next
  pub less_one_more : 2 * value + 1 + 1 ≡ 2 ^ (done + 1)
  less_one_more = rw (add-one done) (omega (arith, two-pow-succ done))

  -- which has 64 bits where the power before it is below 2 to the 64
  pub less_one_fits : done < 64 → 2 * value + 1 < 18446744073709551616
  less_one_fits few = omega (arith, less_one_more, pow_mono {i = done + 1} {j = 64} (omega arith))

-- the quotient of 2^64 - 1 by a power is one below the other factor
pub less_one_shifted : (a b : ℕ) → 0 < a → 0 < b → a * b ≡ 18446744073709551616 → 18446744073709551615 / a + 1 ≡ b
less_one_shifted a b some some' whole =
    let next : b - 1 + 1 ≡ b = omega arith in
    let split : (b - 1) * a + (a - 1) ≡ 18446744073709551615 = omega (arith, ap (λ (x : ℕ). a * x) next ∙ whole) in
    let quotient : 18446744073709551615 / a ≡ b - 1 = rw (← split) (digits_div (b - 1) {m = a} {r = a - 1} (omega arith)) in
    omega arith
