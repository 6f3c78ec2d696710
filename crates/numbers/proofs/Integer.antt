-- Laws of residues of integers, and of the exact quotient.
-- Assumes nothing.
use mathlib.Core.Path.{◌≡◌, refl, sym, ap, ◌∙◌}
use Prim.Native.Nat.{ℕ, suc, ◌+◌, ◌-◌, ◌*◌, ◌/◌, ◌%◌, ◌<◌}
use native.Mathlib.Nat.{mod-lt, mod-eq_of_lt, mod-add-div, zero-mod, zero-add}
use native.Mathlib.Omega.{arith}
use lib.IntN.{ℤ, pos, negsuc, neg_ℤ, ◌+ℤ◌, ◌-ℤ◌, ◌*ℤ◌}
use Rattle.numbers.specs.Congruence.{Cong}
use Rattle.numbers.specs.Integer.{residue, quotient}
use Rattle.numbers.proofs.Congruence.{cong_refl, cong_sym, ◌then◌, cong_of_equal, cong_mod, cong_below}
use Rattle.numbers.proofs.Congruence.{cong_add, cong_add_multiple, cong_add_cancel, cong_mul}
use Rattle.numbers.proofs.Difference.{Difference, pos_difference, neg_difference, minus_difference, pos_parts, negsuc_parts}
use Rattle.numbers.proofs.Difference.{difference, difference_same, difference_add, difference_mul}

-- the residue of a natural number is its remainder
pub residue_pos : (m n : ℕ) → residue m (pos n) ≡ n % m
unfolding residue
residue_pos m n = refl

-- a residue is below the modulus
pub residue_below : (m : ℕ) (k : ℤ) → 0 < m → residue m k < m
unfolding residue
residue_below m (pos n) positive = mod-lt _ positive
residue_below m (negsuc n) positive = mod-lt _ positive

-- a number and what its remainder lacks to the modulus make a multiple of the modulus
lacking : (m n : ℕ) → 0 < m → Cong m ((m - n % m) % m + n) 0
lacking m n positive =
    let whole : m - n % m + n % m ≡ 0 + m * 1 = omega (arith, mod-lt n positive) in
    cong_add (cong_mod m (m - n % m)) (cong_sym (cong_mod m n)) then cong_of_equal m whole then cong_add_multiple m 0 1

-- the residue of a − b, plus b, is congruent to a
pub residue_difference : (m : ℕ) {k : ℤ} {a b : ℕ} → 0 < m → Difference k a b → Cong m (residue m k + b) a
unfolding residue
residue_difference m {k = pos n} {a} {b} positive d =
    cong_add (cong_mod m n) (cong_refl m b) then cong_of_equal m (sym (pos_parts d))
residue_difference m {k = negsuc n} {a} {b} positive d =
    let split : (m - suc n % m) % m + b ≡ (m - suc n % m) % m + suc n + a = omega (arith, negsuc_parts d) in
    cong_of_equal m split then cong_add (lacking m (suc n) positive) (cong_refl m a) then cong_of_equal m (omega arith)

-- the number below the modulus that, plus b, is congruent to a is the residue of a − b
pub residue_is : (m r : ℕ) {k : ℤ} {a b : ℕ} → r < m → Difference k a b → Cong m (r + b) a → residue m k ≡ r
residue_is m r {k} {a} {b} below d h =
    let positive : 0 < m = omega arith in
    cong_below (cong_add_cancel m _ r b (residue_difference m positive d then cong_sym h)) (residue_below m k positive) below

-- the sum of r and s serves for the sum of two differences
sum_serves : (m r s a b c d : ℕ) → Cong m (r + b) a → Cong m (s + d) c → Cong m ((r + s) % m + (b + d)) (a + c)
sum_serves m r s a b c d p q =
    cong_add (cong_mod m (r + s)) (cong_refl m (b + d)) then cong_of_equal m {b = r + b + (s + d)} (omega arith) then cong_add p q

-- the product of r and s serves for the product of two differences
product_serves : (m r s a b c d : ℕ) → Cong m (r + b) a → Cong m (s + d) c → Cong m (r * s % m + (a * d + b * c)) (a * c + b * d)
product_serves m r s a b c d p q =
    cong_add (cong_mod m (r * s)) (cong_sym (cong_add (cong_mul p (cong_refl m d)) (cong_mul (cong_refl m b) q)))
    then cong_of_equal m {b = (r + b) * (s + d) + b * d} (omega arith) then cong_add (cong_mul p q) (cong_refl m (b * d))

-- the residue of a sum is the residue of the sum of the residues
pub residue_add : (m : ℕ) (j k : ℤ) → 0 < m → residue m (j +ℤ k) ≡ (residue m j + residue m k) % m
residue_add m j k positive =
    let (a, b, p) = difference j in
    let (c, d, q) = difference k in
    let sum = sum_serves m _ _ a b c d (residue_difference m positive p) (residue_difference m positive q) in
    residue_is m _ (mod-lt _ positive) (difference_add p q) sum

-- the residue of a product is the residue of the product of the residues
pub residue_mul : (m : ℕ) (j k : ℤ) → 0 < m → residue m (j *ℤ k) ≡ residue m j * residue m k % m
residue_mul m j k positive =
    let (a, b, p) = difference j in
    let (c, d, q) = difference k in
    let product = product_serves m _ _ a b c d (residue_difference m positive p) (residue_difference m positive q) in
    residue_is m _ (mod-lt _ positive) (difference_mul p q) product

-- the difference mod q, made of natural numbers
pub residue_subtract : (q x y : ℕ) → y < q → residue q (pos x -ℤ pos y) ≡ (x + (q - y)) % q
residue_subtract q x y h =
    let whole : x + (q - y) + y ≡ x + q * 1 = omega arith in
    residue_is q _ (mod-lt _ (omega arith)) (minus_difference x y)
    (cong_add (cong_mod q _) (cong_refl q y) then cong_of_equal q whole then cong_add_multiple q x 1)

-- a multiple of a residue
pub residue_of_residue : (q : ℕ) (b k : ℤ) → 0 < q → residue q (b *ℤ pos (residue q k)) ≡ residue q (b *ℤ k)
residue_of_residue q b k h =
    residue_mul q b (pos (residue q k)) h
    ∙ ap (λ (x : ℕ). residue q b * x % q) (residue_pos q _ ∙ mod-eq_of_lt (residue_below q k h))
    ∙ sym (residue_mul q b k h)

-- an integer whose residue is 0 is the modulus times the quotient
pub quotient_exact : (m : ℕ) (k : ℤ) → 0 < m → residue m k ≡ 0 → pos m *ℤ quotient k m ≡ k
unfolding quotient
quotient_exact m (pos n) positive e = ap pos (omega (arith, mod-add-div n m, residue_pos m n))
quotient_exact m (negsuc n) positive e =
    let self : Difference (negsuc n) 0 (suc n) = neg_difference (suc n) (omega arith) in
    let divides : suc n % m ≡ 0 = rw (e, zero-add, zero-mod) at (residue_difference m positive self).same in
    let modulus : Difference (pos m) m 0 = pos_difference (omega arith) in
    let size : Difference (neg_ℤ (pos (suc n / m))) 0 (suc n / m) = neg_difference (suc n / m) (omega arith) in
    difference_same (difference_mul modulus size) (neg_difference (suc n) (omega (arith, mod-add-div (suc n) m)))
