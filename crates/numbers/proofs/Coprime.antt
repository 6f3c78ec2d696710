-- The differences of challenges are coprime to the order, and the extractor's two integers fit its formula.
-- The premise, that no d with 2 ≤ d < K divides the order, is what 01's refusal 8 leaves.
-- Assumes nothing.
use mathlib.Core.Path.{◌≡◌, sym, ◌∙◌, ap, subst}
use mathlib.Core.Logic.{inl, inr, ◌≢◌}
use Prim.Native.Nat.{ℕ, suc, ◌+◌, ◌*◌, ◌%◌, ◌≤◌, ◌<◌, ◌∣◌}
use native.Mathlib.Nat.{zero-add, eq-zero-or-pos, eq-or-lt_of_le, le_of_dvd, pos_of_dvd_of_pos, dvd-mod_iff, dvd_trans, dvd-add_iff_right}
use native.Mathlib.Omega.{arith}
use lib.IntN.{ℤ, pos, negsuc, nat_abs, ◌+ℤ◌, ◌-ℤ◌, ◌*ℤ◌, -ℤ-+ℤ_cancel}
use Rattle.numbers.specs.Divisors.{NoDivisorBelow}
use Rattle.numbers.specs.Gcd.{gcd}
use Rattle.numbers.specs.Inverse.{inverse, Inverses}
use Rattle.numbers.specs.Integer.{residue, bezout_left, bezout_right}
use Rattle.numbers.proofs.Congruence.{cong_add_cancel, cong_below, cong_zero, mod_is_one, mod_mul_right}
use Rattle.numbers.proofs.Difference.{Difference, neg_difference, minus_difference, pos_parts, difference_size}
use Rattle.numbers.proofs.Gcd.{gcd_is_gcd, gcd_one}
use Rattle.numbers.proofs.Inverse.{inverse_inverts}
use Rattle.numbers.proofs.Integer.{residue_pos, residue_below, residue_difference, residue_add, residue_mul, quotient_exact}

-- a positive number below K is coprime to the order, if no d with 2 ≤ d < K divides the order
pub coprime_below : (count order : ℕ) → NoDivisorBelow order count
    → (delta : ℕ) → 1 ≤ delta → delta < count → gcd delta order ≡ 1
coprime_below count order none delta positive below =
    let divisor = gcd_is_gcd delta order in
    let low : 1 ≤ gcd delta order = pos_of_dvd_of_pos divisor.left positive in
    let high : gcd delta order ≤ delta = le_of_dvd positive divisor.left in
    elim (eq-or-lt_of_le low) [
      | inl same ↦ sym same
      | inr more ↦ absurd (none (gcd delta order) more (omega arith) divisor.right)
    ]

-- the residue of an integer coprime to the modulus is coprime to it
pub residue_coprime : (m : ℕ) (k : ℤ) → 0 < m → gcd (nat_abs k) m ≡ 1 → gcd (residue m k) m ≡ 1
residue_coprime m (pos n) positive e =
    (gcd_one _ m).1 (λ d p q. (gcd_one n m).0 e d ((dvd-mod_iff d q).0 (rw (residue_pos m n) at p)) q)
residue_coprime m (negsuc n) positive e =
    let self : Difference (negsuc n) 0 (suc n) = neg_difference (suc n) (omega arith) in
    let whole : m ∣ residue m (negsuc n) + suc n = (cong_zero m _).0 (residue_difference m positive self) in
    (gcd_one _ m).1 (λ d p q. (gcd_one (suc n) m).0 e d ((dvd-add_iff_right d p).1 (dvd_trans d q whole)) q)

-- what an integer of residue 1 lacks to 1 has the residue 0
lacks_to_one : (m : ℕ) (k : ℤ) → 1 < m → residue m k ≡ 1 → residue m (pos 1 -ℤ k) ≡ 0
lacks_to_one m k big e =
    let positive : 0 < m = omega arith in
    let rest = pos 1 -ℤ k in
    let back : residue m (rest +ℤ k) ≡ 1 % m = ap (residue m) (-ℤ-+ℤ_cancel (pos 1) k) ∙ residue_pos m 1 in
    let sum : (residue m rest + 1) % m ≡ 1 % m = rw (residue_add m rest k positive, e) at back in
    cong_below (cong_add_cancel m _ 0 1 (record { same = sum })) (residue_below m rest positive) positive

-- the extractor's formula, order · a + delta · b = 1, for a delta coprime to the order
pub bezout_coprime : (order : ℕ) (delta : ℤ) → 1 < order → gcd (nat_abs delta) order ≡ 1
    → pos order *ℤ bezout_left order delta +ℤ delta *ℤ bezout_right order delta ≡ pos 1
unfolding bezout_left bezout_right
bezout_coprime order delta big coprime =
    let positive : 0 < order = omega arith in
    let r = residue order delta in
    let w = inverse order r in
    let inv : Inverses order r w = inverse_inverts order r big (residue_coprime order delta positive coprime) in
    let reduced : r * (w % order) % order ≡ 1 = mod_mul_right order r w ∙ mod_is_one big inv.one in
    let one : residue order (delta *ℤ pos w) ≡ 1 = residue_mul order delta (pos w) positive ∙ rw (residue_pos order w) reduced in
    let exact = quotient_exact order (pos 1 -ℤ delta *ℤ pos w) positive (lacks_to_one order (delta *ℤ pos w) big one) in
    ap (λ (x : ℤ). x +ℤ delta *ℤ pos w) exact ∙ -ℤ-+ℤ_cancel (pos 1) (delta *ℤ pos w)

-- an integer that is not 0 is at least 1 in size
nat_abs_positive : (k : ℤ) → k ≢ pos 0 → 1 ≤ nat_abs k
nat_abs_positive (pos n) h = elim (eq-zero-or-pos n) [ inl none ↦ absurd (h (ap pos none)) | inr some ↦ some ]
nat_abs_positive (negsuc n) h = omega arith

-- the extractor's formula, for a delta other than 0 and less than K in size, if no d with 2 ≤ d < K divides the order
pub bezout_below : (count order : ℕ) → NoDivisorBelow order count → 2 ≤ order
    → (delta : ℤ) → delta ≢ pos 0 → nat_abs delta < count
    → pos order *ℤ bezout_left order delta +ℤ delta *ℤ bezout_right order delta ≡ pos 1
bezout_below count order none big delta nonzero below =
    bezout_coprime order delta big (coprime_below count order none (nat_abs delta) (nat_abs_positive delta nonzero) below)

-- the extractor's formula for two different challenges below K, if no d with 2 ≤ d < K divides the order
pub bezout_challenges : (count order : ℕ) → NoDivisorBelow order count → 2 ≤ order
    → (c c' : ℕ) → c < count → c' < count → c ≢ c'
    → pos order *ℤ bezout_left order (pos c -ℤ pos c') +ℤ (pos c -ℤ pos c') *ℤ bezout_right order (pos c -ℤ pos c') ≡ pos 1
bezout_challenges count order none big c c' low low' different =
    let delta = pos c -ℤ pos c' in
    let self = minus_difference c c' in
    let apart : delta ≢ pos 0 = λ e. different (pos_parts (subst (λ (k : ℤ). Difference k c c') e self) ∙ zero-add c') in
    bezout_below count order none big delta apart (difference_size count self low low')
