-- Integers as differences of natural numbers: a law of integers follows from a law of the natural numbers that they are differences of.
-- Assumes nothing.
use mathlib.Core.Path.{◌≡◌, refl, sym, ◌∙◌, ap, ap₂}
use mathlib.Core.Bool.{Bool, true, false, cond}
use Prim.Native.Nat.{ℕ, zero, suc, ◌+◌, ◌-◌, ◌*◌, ◌<◌}
use native.Mathlib.Omega.{arith}
use lib.Dec.{ltb}
use lib.IntN.{ℤ, pos, negsuc, neg_ℤ, nat_abs, ◌+ℤ◌, ◌-ℤ◌, ◌*ℤ◌, pos-ne-negsuc, +ℤ_assoc, +ℤ_comm, +ℤ-neg_ℤ_cancel, -ℤ-+ℤ_cancel}
use borrow.Author.Tests.{ltb-false, le-ltb}

-- the integer k is a − b
pub record Difference (k : ℤ) (a b : ℕ) : Type 0 where
  pub sum : k +ℤ pos b ≡ pos a

-- a natural number as a difference
pub pos_difference : {n a b : ℕ} → a ≡ n + b → Difference (pos n) a b
pos_difference e = record { sum = ap pos (sym e) }

-- a negated natural number as a difference
pub neg_difference : (n : ℕ) {a b : ℕ} → b ≡ n + a → Difference (neg_ℤ (pos n)) a b
neg_difference zero e = pos_difference (omega arith)
neg_difference (suc n) {a} {b} e =
    let past : ltb b (suc n) ≡ false = le-ltb b (suc n) (omega arith) in
    let rest : b - suc n ≡ a = omega arith in
    record { sum = rw (past, rest) }

-- a − b is the difference of a and b
pub minus_difference : (a b : ℕ) → Difference (pos a -ℤ pos b) a b
minus_difference a b = record { sum = -ℤ-+ℤ_cancel (pos a) (pos b) }

-- what it means that a natural number is a − b
pub pos_parts : {n a b : ℕ} → Difference (pos n) a b → a ≡ n + b
pos_parts d = ap nat_abs (sym d.sum)

-- what it means that a negative integer is a − b
pub negsuc_parts : {n a b : ℕ} → Difference (negsuc n) a b → b ≡ suc n + a
negsuc_parts {n} {a} {b} d = go (ltb b (suc n)) refl d.sum
  where
    go : (t : Bool) → ltb b (suc n) ≡ t → cond t (negsuc (suc n - suc b)) (pos (b - suc n)) ≡ pos a → b ≡ suc n + a
    go true t e = absurd (pos-ne-negsuc _ _ (sym e))
    go false t e =
        let rest : b - suc n ≡ a = ap nat_abs e in
        omega (arith, ltb-false b (suc n) t)

-- a difference of two numbers below n is less than n in size
pub difference_size : (n : ℕ) {k : ℤ} {a b : ℕ} → Difference k a b → a < n → b < n → nat_abs k < n
difference_size n {k = pos l} d h g = omega (arith, pos_parts d)
difference_size n {k = negsuc l} d h g = omega (arith, negsuc_parts d)

-- every integer is a difference
pub difference : (k : ℤ) → (a : ℕ) × (b : ℕ) × Difference k a b
difference (pos n) = (n, 0, pos_difference (omega arith))
difference (negsuc n) = (0, suc n, neg_difference (suc n) (omega arith))

-- integers that are the same difference are equal
pub difference_same : {j k : ℤ} {a b : ℕ} → Difference j a b → Difference k a b → j ≡ k
difference_same {j} {k} {a} {b} p q =
    sym (+ℤ-neg_ℤ_cancel j (pos b)) ∙ ap (λ (x : ℤ). x -ℤ pos b) (p.sum ∙ sym q.sum) ∙ +ℤ-neg_ℤ_cancel k (pos b)

-- the middle two of four summands may change places
middle : (j k b d : ℤ) → (j +ℤ k) +ℤ (b +ℤ d) ≡ (j +ℤ b) +ℤ (k +ℤ d)
middle j k b d =
    +ℤ_assoc j k (b +ℤ d) ∙ ap (λ (x : ℤ). j +ℤ x) (+ℤ_comm k (b +ℤ d) ∙ +ℤ_assoc b d k ∙ ap (λ (x : ℤ). b +ℤ x) (+ℤ_comm d k))
    ∙ sym (+ℤ_assoc j b (k +ℤ d))

-- the sum of two differences
pub difference_add : {j k : ℤ} {a b c d : ℕ} → Difference j a b → Difference k c d → Difference (j +ℤ k) (a + c) (b + d)
difference_add {j} {k} {a} {b} {c} {d} p q =
    record { sum = middle j k (pos b) (pos d) ∙ ap₂ (λ (x y : ℤ). x +ℤ y) p.sum q.sum }

-- the product of two differences
pub difference_mul : {j k : ℤ} {a b c d : ℕ} → Difference j a b → Difference k c d → Difference (j *ℤ k) (a * c + b * d) (a * d + b * c)
difference_mul {j = pos n} {k = pos l} p q = rw (pos_parts p, pos_parts q) (pos_difference (omega arith))
difference_mul {j = pos n} {k = negsuc l} p q = rw (pos_parts p, negsuc_parts q) (neg_difference (n * suc l) (omega arith))
difference_mul {j = negsuc n} {k = pos l} p q = rw (negsuc_parts p, pos_parts q) (neg_difference (suc n * l) (omega arith))
difference_mul {j = negsuc n} {k = negsuc l} p q = rw (negsuc_parts p, negsuc_parts q) (pos_difference (omega arith))
