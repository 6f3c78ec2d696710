-- Laws of powers modulo m with integer exponents, for a base coprime to m.
-- Assumes nothing.
use mathlib.Core.Path.{◌≡◌, refl, sym, ◌∙◌, ap}
use Prim.Native.Nat.{ℕ, zero, suc, ◌+◌, ◌*◌, ◌%◌, ◌^◌, ◌<◌}
use native.Mathlib.Nat.{mod-lt, mod-eq_of_lt, mul_comm, mul_assoc, one-mul, mul-mul-mul_comm, pow-zero}
use native.Mathlib.Omega.{arith}
use lib.Pow.{pow-add}
use lib.IntN.{ℤ, pos, negsuc, neg_ℤ, ◌+ℤ◌, +ℤ_invr}
use Rattle.numbers.specs.Congruence.{Cong}
use Rattle.numbers.specs.Gcd.{gcd}
use Rattle.numbers.specs.Inverse.{inverse, Inverses}
use Rattle.numbers.specs.Integer.{power}
use Rattle.numbers.proofs.Congruence.{cong_refl, cong_sym, ◌then◌, cong_of_equal, cong_mod, cong_one, cong_below}
use Rattle.numbers.proofs.Congruence.{cong_mul, cong_mul_cancel}
use Rattle.numbers.proofs.Difference.{Difference, pos_parts, negsuc_parts}
use Rattle.numbers.proofs.Difference.{difference, difference_add}
use Rattle.numbers.proofs.Inverse.{inverses_sym, inverses_pow, inverses_coprime, inverse_inverts}

-- a power with a natural exponent
pub power_pos : (m v n : ℕ) → power m v (pos n) ≡ v ^ n % m
unfolding power
power_pos m v n = refl

-- a power with a negated natural exponent is a power of the inverse
pub power_neg : (m v n : ℕ) → power m v (neg_ℤ (pos n)) ≡ inverse m v ^ n % m
unfolding power
power_neg m v zero = rw (pow-zero v, pow-zero (inverse m v))
power_neg m v (suc n) = refl

-- a power is below the modulus
pub power_below : (m v : ℕ) (k : ℤ) → 0 < m → power m v k < m
unfolding power
power_below m v (pos n) positive = mod-lt _ positive
power_below m v (negsuc n) positive = mod-lt _ positive

-- the product of t and s serves for the sum of the exponents a − b and c − d
sum_serves : (m v t s a b c d : ℕ) → Cong m (t * v ^ b) (v ^ a) → Cong m (s * v ^ d) (v ^ c)
    → Cong m (t * s % m * v ^ (b + d)) (v ^ (a + c))
sum_serves m v t s a b c d p q =
    cong_mul (cong_mod m (t * s)) (cong_of_equal m (pow-add v b d))
    then cong_of_equal m (mul-mul-mul_comm t s (v ^ b) (v ^ d)) then cong_mul p q then cong_of_equal m (sym (pow-add v a c))

module _ (m v : ℕ) (big : 1 < m) (coprime : gcd v m ≡ 1) where
  -- v to the a − b, times v to the b, is congruent to v to the a
  pub power_difference : {k : ℤ} {a b : ℕ} → Difference k a b → Cong m (power m v k * v ^ b) (v ^ a)
  unfolding power
  power_difference {k = pos n} {a} {b} d =
      cong_mul (cong_mod m (v ^ n)) (cong_refl m (v ^ b))
      then cong_of_equal m (sym (pow-add v n b) ∙ ap (λ (x : ℕ). v ^ x) (sym (pos_parts d)))
  power_difference {k = negsuc n} {a} {b} d =
      let w = inverse m v in
      let inv : Inverses m (w ^ suc n) (v ^ suc n) = inverses_sym (inverses_pow (inverse_inverts m v big coprime) (suc n)) in
      let split : v ^ b ≡ v ^ suc n * v ^ a = ap (λ (x : ℕ). v ^ x) (negsuc_parts d) ∙ pow-add v (suc n) a in
      cong_mul (cong_mod m (w ^ suc n)) (cong_of_equal m split)
      then cong_of_equal m (sym (mul_assoc (w ^ suc n) (v ^ suc n) (v ^ a)))
      then cong_mul inv.one (cong_refl m (v ^ a)) then cong_of_equal m (one-mul (v ^ a))

  -- the number below the modulus that, times v to the b, is congruent to v to the a is v to the a − b
  pub power_is : (r : ℕ) {k : ℤ} {a b : ℕ} → r < m → Difference k a b → Cong m (r * v ^ b) (v ^ a) → power m v k ≡ r
  power_is r {k} {a} {b} below d h =
      let same : Cong m (power m v k * v ^ b) (r * v ^ b) = power_difference d then cong_sym h in
      let turned = cong_of_equal m (mul_comm (v ^ b) _) then same then cong_of_equal m (mul_comm r (v ^ b)) in
      let inv = inverses_pow (inverse_inverts m v big coprime) b in
      cong_below (cong_mul_cancel inv (power m v k) r turned) (power_below m v k (omega arith)) below

  -- a sum of exponents gives the product of the powers
  pub power_add : (j k : ℤ) → power m v (j +ℤ k) ≡ power m v j * power m v k % m
  power_add j k =
      let (a, b, p) = difference j in
      let (c, d, q) = difference k in
      let sum = sum_serves m v _ _ a b c d (power_difference p) (power_difference q) in
      power_is _ (mod-lt _ (omega arith)) (difference_add p q) sum

  -- powers with opposite exponents are inverses of each other
  pub power_inverses : (k : ℤ) → Inverses m (power m v k) (power m v (neg_ℤ k))
  power_inverses k =
      let none : power m v (pos 0) ≡ 1 = power_pos m v 0 ∙ rw (pow-zero v) (mod-eq_of_lt big) in
      record { one = cong_one m _ (sym (power_add k (neg_ℤ k)) ∙ ap (power m v) (+ℤ_invr k) ∙ none) }

  -- a power is coprime to the modulus
  pub power_coprime : (k : ℤ) → gcd (power m v k) m ≡ 1
  power_coprime k = inverses_coprime (power_inverses k)
