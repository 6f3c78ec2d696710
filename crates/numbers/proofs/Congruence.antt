-- Laws of congruence: an equivalence that sums, products and powers respect, with the same facts in terms of remainders.
-- Assumes nothing.
use mathlib.Core.Path.{◌≡◌, refl, sym, ◌∙◌, ap, ap₂}
use mathlib.Core.Logic.{◌↔◌}
use Prim.Native.Nat.{ℕ, zero, suc, ◌+◌, ◌*◌, ◌/◌, ◌%◌, ◌^◌, ◌<◌, ◌∣◌}
use native.Mathlib.Nat.{add-mod, mod-mod, zero-mod, mod-zero, mod-add-div, add-mul-mod_self_left, mod-eq_of_lt, dvd_iff_mod-eq-zero}
use native.Mathlib.Nat.{mul_comm, one-mul, pow-zero, pow-suc}
use native.Mathlib.Omega.{arith}
use Rattle.numbers.specs.Congruence.{Cong}
use Rattle.numbers.specs.Inverse.{Inverses}

-- a number is congruent to itself
pub cong_refl : (m a : ℕ) → Cong m a a
cong_refl m a = record { same = refl }

-- congruence goes both ways
pub cong_sym : {m a b : ℕ} → Cong m a b → Cong m b a
cong_sym h = record { same = sym h.same }

-- congruences follow one another
infixl 5 ◌then◌
pub ◌then◌ : {m a b c : ℕ} → Cong m a b → Cong m b c → Cong m a c
g then h = record { same = g.same ∙ h.same }

-- equal numbers are congruent
pub cong_of_equal : (m : ℕ) {a b : ℕ} → a ≡ b → Cong m a b
cong_of_equal m e = record { same = ap (λ (x : ℕ). x % m) e }

-- a remainder is congruent to its number
pub cong_mod : (m a : ℕ) → Cong m (a % m) a
cong_mod m a = record { same = mod-mod a m }

-- multiples of the modulus do not count
pub cong_add_multiple : (m a k : ℕ) → Cong m (a + m * k) a
cong_add_multiple m a k = record { same = add-mul-mod_self_left a m k }

-- sums of congruent numbers are congruent
pub cong_add : {m a b c d : ℕ} → Cong m a b → Cong m c d → Cong m (a + c) (b + d)
cong_add {m} {a} {b} {c} {d} g h =
    record { same = add-mod a c m ∙ ap₂ (λ (x y : ℕ). (x + y) % m) g.same h.same ∙ sym (add-mod b d m) }

-- a factor may be reduced
cong_mod_mul : (m a b : ℕ) → Cong m (a % m * b) (a * b)
cong_mod_mul m a b =
    let split : a % m * b + m * (a / m * b) ≡ (a % m + m * (a / m)) * b = omega arith in
    cong_sym (cong_add_multiple m (a % m * b) (a / m * b)) then cong_of_equal m (split ∙ ap (λ (x : ℕ). x * b) (mod-add-div a m))

-- congruent numbers times the same number are congruent
cong_mul_right : {m a b : ℕ} → Cong m a b → (c : ℕ) → Cong m (a * c) (b * c)
cong_mul_right {m} {a} {b} h c =
    cong_sym (cong_mod_mul m a c) then cong_of_equal m (ap (λ (x : ℕ). x * c) h.same) then cong_mod_mul m b c

-- products of congruent numbers are congruent
pub cong_mul : {m a b c d : ℕ} → Cong m a b → Cong m c d → Cong m (a * c) (b * d)
cong_mul {m} {a} {b} {c} {d} g h =
    cong_mul_right g c then cong_of_equal m (mul_comm b c) then cong_mul_right h b then cong_of_equal m (mul_comm d b)

-- powers of congruent numbers are congruent
pub cong_pow : {m a b : ℕ} → Cong m a b → (n : ℕ) → Cong m (a ^ n) (b ^ n)
cong_pow {m} {a} {b} h zero = cong_of_equal m (pow-zero a ∙ sym (pow-zero b))
cong_pow {m} {a} {b} h (suc n) =
    cong_of_equal m (pow-suc a n) then cong_mul (cong_pow h n) h then cong_of_equal m (sym (pow-suc b n))

-- congruent numbers below the modulus are equal
pub cong_below : {m a b : ℕ} → Cong m a b → a < m → b < m → a ≡ b
cong_below h l k = sym (mod-eq_of_lt l) ∙ h.same ∙ mod-eq_of_lt k

-- the numbers congruent to 0 are the multiples of the modulus
pub cong_zero : (m a : ℕ) → Cong m a 0 ↔ (m ∣ a)
cong_zero m a = (
  (λ h. (dvd_iff_mod-eq-zero m).1 (h.same ∙ zero-mod m)),
  (λ d. record { same = (dvd_iff_mod-eq-zero m).0 d ∙ sym (zero-mod m) }),
)

-- a number whose remainder is 1 is congruent to 1
pub cong_one : (m a : ℕ) → a % m ≡ 1 → Cong m a 1
cong_one m a e = record { same = sym (mod-mod a m) ∙ ap (λ (x : ℕ). x % m) e }

-- a number congruent to 1 has the remainder 1
pub mod_is_one : {m a : ℕ} → 1 < m → Cong m a 1 → a % m ≡ 1
mod_is_one l h = h.same ∙ mod-eq_of_lt l

-- a summand may be cancelled
pub cong_add_cancel : (m a b c : ℕ) → Cong m (a + c) (b + c) → Cong m a b
cong_add_cancel zero a b c h =
    let same : a + c ≡ b + c = sym (mod-zero _) ∙ h.same ∙ mod-zero _ in
    cong_of_equal 0 (omega arith)
cong_add_cancel (suc n) a b c h = cong_sym (whole a) then cong_add h (cong_refl (suc n) (n * c)) then whole b
  where
    whole : (x : ℕ) → Cong (suc n) (x + c + n * c) x
    whole x = cong_of_equal (suc n) {b = x + suc n * c} (omega arith) then cong_add_multiple (suc n) x c

-- a factor that has an inverse may be cancelled
pub cong_mul_cancel : {m v w : ℕ} → Inverses m v w → (a b : ℕ) → Cong m (v * a) (v * b) → Cong m a b
cong_mul_cancel {m} {v} {w} inv a b h = cong_sym (back a) then cong_mul (cong_refl m w) h then back b
  where
    back : (x : ℕ) → Cong m (w * (v * x)) x
    back x = cong_of_equal m {b = v * w * x} (omega arith) then cong_mul inv.one (cong_refl m x) then cong_of_equal m (one-mul x)

-- the first factor of a product may be reduced
pub mod_mul_left : (m a b : ℕ) → a % m * b % m ≡ a * b % m
mod_mul_left m a b = (cong_mul (cong_mod m a) (cong_refl m b)).same

-- the second factor of a product may be reduced
pub mod_mul_right : (m a b : ℕ) → a * (b % m) % m ≡ a * b % m
mod_mul_right m a b = (cong_mul (cong_refl m a) (cong_mod m b)).same

-- both factors of a product may be reduced
pub mod_mul_both : (m a b : ℕ) → a % m * (b % m) % m ≡ a * b % m
mod_mul_both m a b = (cong_mul (cong_mod m a) (cong_mod m b)).same

-- the base of a power may be reduced
pub mod_pow : (m a n : ℕ) → (a % m) ^ n % m ≡ a ^ n % m
mod_pow m a n = (cong_pow (cong_mod m a) n).same
