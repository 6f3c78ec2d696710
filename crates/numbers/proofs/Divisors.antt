-- How a search for the least divisor goes on, and where it may stop.
-- Assumes nothing.
use mathlib.Core.Path.{◌≡◌, subst}
use Prim.Native.Nat.{ℕ, zero, suc, ◌*◌, ◌/◌, ◌≤◌, ◌<◌, ◌∣◌}
use native.Mathlib.Nat.{div-lt_iff_lt-mul, div-mul_cancel, dvd-mul_right, le_of_dvd, lt_of_lt_of_le, mul-le-mul_left}
use native.Mathlib.Decide.{dec_lt}
use native.Mathlib.Omega.{arith}
use Rattle.numbers.specs.Divisors.{NoDivisorBelow}

-- a search that has tried d may go on at r, where nothing between them divides
pub no_divisor_next : (n d r : ℕ) → NoDivisorBelow n d → ¬ (d ∣ n) → ((e : ℕ) → d < e → e < r → ¬ (e ∣ n)) → NoDivisorBelow n r
no_divisor_next n d r none fails between e large below whole = elim (dec_lt e d) [
  | yes before ↦ none e large before whole
  | no not_before ↦ elim (dec_lt d e) [
    | yes after ↦ between e after below whole
    | no not_after ↦ fails (subst (λ (k : ℕ). k ∣ n) (omega arith) whole)
  ]
]

-- above the square root only n itself divides: another divisor has a cofactor below the root
pub no_divisor_above_root : (n d : ℕ) → NoDivisorBelow n d → 0 < d → n / d < d → (e : ℕ) → d < e → e < n → ¬ (e ∣ n)
no_divisor_above_root n d none some above e after below whole =
    let product : n / e * e ≡ n = div-mul_cancel e whole in
    let square : n < d * d = (div-lt_iff_lt-mul some).0 above in
    let small : n / e < d = (div-lt_iff_lt-mul {k = e} (omega arith)).1 (lt_of_lt_of_le square (mul-le-mul_left d (omega arith))) in
    none (n / e) (two_or_more (n / e) product) small (subst (λ (k : ℕ). n / e ∣ k) product (dvd-mul_right (n / e) e))
  where
    two_or_more : (f : ℕ) → f * e ≡ n → 2 ≤ f
    two_or_more zero p = absurd (omega arith)
    two_or_more (suc zero) p = absurd (omega arith)
    two_or_more (suc (suc f)) p = omega arith

-- above n nothing divides
pub no_divisor_above : (n d : ℕ) → 0 < n → n ≤ d → (e : ℕ) → d < e → ¬ (e ∣ n)
no_divisor_above n d some low e after whole = let high : e ≤ n = le_of_dvd some whole in absurd (omega arith)
