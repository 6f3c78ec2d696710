-- The digits of an exponent, of two bits each: how many bits and digits hold it, and what a digit leaves.
-- Assumes nothing.
use mathlib.Core.Path.{◌≡◌, sym, ap, ◌∙◌}
use Prim.Native.Nat.{ℕ, ◌+◌, ◌-◌, ◌*◌, ◌/◌, ◌%◌, ◌^◌, ◌≤◌, ◌<◌}
use native.Mathlib.Nat.{div-div-eq-div-mul, div-eq_of_lt, div-one, mod-add-div, pow-suc, pow-zero}
use native.Mathlib.Numerals.{add-one}
use native.Mathlib.Omega.{arith}
use lib.Count.{count_leading_zeros, leading_length}
use lib.Pow.{pow_mono}
use Rattle.numbers.proofs.Powers.{pow_mul}

-- what the leading zeros leave of 32 bits holds the number
pub length_holds : (v : ℕ) → v < 4294967296 → (32 - count_leading_zeros 32 v ≤ 32) × (v < 2 ^ (32 - count_leading_zeros 32 v))
length_holds v fits =
    let (k, whole, below, rest) = leading_length 32 v fits in
    let is_k : 32 - count_leading_zeros 32 v ≡ k = omega arith in
    (omega arith, rw is_k below)

-- two bits are a digit
pub digit_bits : (k : ℕ) → 2 ^ (2 * k) ≡ 4 ^ k
digit_bits k = pow_mul 2 2 k

-- digits that hold all bits
pub digits_hold : (v bits k : ℕ) → v < 2 ^ bits → bits ≤ 2 * (k + 1) → v < 4 ^ (k + 1)
digits_hold v bits k holds enough = omega (arith, holds, pow_mono {i = bits} {j = 2 * (k + 1)} enough, digit_bits (k + 1))

-- a digit more is a quarter
quarter : (e k : ℕ) → e / 4 ^ (k + 1) ≡ e / 4 ^ k / 4
quarter e k = ap (λ (x : ℕ). e / x) (ap (λ (x : ℕ). 4 ^ x) (add-one k) ∙ pow-suc 4 k) ∙ sym (div-div-eq-div-mul e (4 ^ k) 4)

-- four times what lies above a digit, and the digit
pub digits_below : (e k : ℕ)
    → e / 4 ^ (k + 1) + e / 4 ^ (k + 1) + (e / 4 ^ (k + 1) + e / 4 ^ (k + 1)) + e / 4 ^ k % 4 ≡ e / 4 ^ k
digits_below e k = rw (quarter e k) (omega (arith, mod-add-div (e / 4 ^ k) 4))

-- the highest digit is all that is left
pub digit_top : (e k : ℕ) → e < 4 ^ (k + 1) → e / 4 ^ k % 4 ≡ e / 4 ^ k
digit_top e k holds =
    let none : e / 4 ^ (k + 1) ≡ 0 = div-eq_of_lt holds in
    omega (arith, quarter e k, mod-add-div (e / 4 ^ k) 4)

-- below the lowest digit nothing is left out
pub digit_none : (e : ℕ) → e / 4 ^ 0 ≡ e
digit_none e = ap (λ (x : ℕ). e / x) (pow-zero 4) ∙ div-one e
