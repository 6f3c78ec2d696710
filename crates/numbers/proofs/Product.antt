-- Laws of sums and products over an index.
-- Assumes nothing.
use mathlib.Core.Path.{◌≡◌, refl, ◌∙◌, ap, ap₂}
use Prim.Native.Nat.{ℕ, zero, suc, ◌+◌, ◌*◌, ◌^◌, ◌<◌}
use native.Mathlib.Nat.{mul-one, mul-mul-mul_comm, pow-zero}
use native.Mathlib.Omega.{arith}
use lib.Pow.{pow-add}
use Rattle.numbers.specs.Congruence.{Cong}
use Rattle.numbers.specs.Product.{product, sum}
use Rattle.numbers.proofs.Congruence.{cong_refl, cong_mul}
use Rattle.numbers.proofs.Powers.{mul_pow, one_pow}

-- the sum of no terms
pub sum_zero : (f : ℕ → ℕ) → sum 0 f ≡ 0
unfolding sum
sum_zero f = refl

-- the sum of one more term
pub sum_suc : (n : ℕ) (f : ℕ → ℕ) → sum (suc n) f ≡ sum n f + f n
unfolding sum
sum_suc n f = refl

-- terms that are equal below n have equal sums
pub sum_agree : (n : ℕ) (f g : ℕ → ℕ) → ((j : ℕ) → j < n → f j ≡ g j) → sum n f ≡ sum n g
unfolding sum
sum_agree zero f g same = refl
sum_agree (suc n) f g same =
    ap₂ (λ (x y : ℕ). x + y) (sum_agree n f g (λ j h. same j (omega arith))) (same n (omega arith))

-- the product of no factors
pub product_zero : (f : ℕ → ℕ) → product 0 f ≡ 1
unfolding product
product_zero f = refl

-- the product of one more factor
pub product_suc : (n : ℕ) (f : ℕ → ℕ) → product (suc n) f ≡ product n f * f n
unfolding product
product_suc n f = refl

-- factors that are equal below n have equal products
pub product_agree : (n : ℕ) (f g : ℕ → ℕ) → ((j : ℕ) → j < n → f j ≡ g j) → product n f ≡ product n g
unfolding product
product_agree zero f g same = refl
product_agree (suc n) f g same =
    ap₂ (λ (x y : ℕ). x * y) (product_agree n f g (λ j h. same j (omega arith))) (same n (omega arith))

-- factors that are congruent below n have congruent products
pub product_cong : (m n : ℕ) (f g : ℕ → ℕ) → ((j : ℕ) → j < n → Cong m (f j) (g j)) → Cong m (product n f) (product n g)
unfolding product
product_cong m zero f g same = cong_refl m 1
product_cong m (suc n) f g same = cong_mul (product_cong m n f g (λ j h. same j (omega arith))) (same n (omega arith))

-- the product of products, factor by factor
pub product_mul : (n : ℕ) (f g : ℕ → ℕ) → product n (λ j. f j * g j) ≡ product n f * product n g
unfolding product
product_mul zero f g = refl
product_mul (suc n) f g =
    ap (λ (x : ℕ). x * (f n * g n)) (product_mul n f g) ∙ mul-mul-mul_comm (product n f) (product n g) (f n) (g n)

-- the power of a product, factor by factor
pub product_pow : (n : ℕ) (f : ℕ → ℕ) (k : ℕ) → product n f ^ k ≡ product n (λ j. f j ^ k)
unfolding product
product_pow zero f k = one_pow k
product_pow (suc n) f k = mul_pow (product n f) (f n) k ∙ ap (λ (x : ℕ). x * f n ^ k) (product_pow n f k)

-- factors of 1 have the product 1
pub product_one : (n : ℕ) → product n (λ j. 1) ≡ 1
unfolding product
product_one zero = refl
product_one (suc n) = mul-one (product n (λ j. 1)) ∙ product_one n

-- a power by a sum is the product of the powers
pub pow_sum : (a n : ℕ) (f : ℕ → ℕ) → a ^ sum n f ≡ product n (λ j. a ^ f j)
unfolding sum product
pow_sum a zero f = pow-zero a
pow_sum a (suc n) f = pow-add a (sum n f) (f n) ∙ ap (λ (p : ℕ). p * a ^ f n) (pow_sum a n f)

-- a product over two indices can be taken in either order
pub product_swap : (n k : ℕ) (f : ℕ → ℕ → ℕ) → product n (λ j. product k (λ g. f j g)) ≡ product k (λ g. product n (λ j. f j g))
unfolding product
product_swap n zero f = product_one n
product_swap n (suc k) f =
    product_mul n (λ j. product k (λ g. f j g)) (λ j. f j k) ∙ ap (λ (p : ℕ). p * product n (λ j. f j k)) (product_swap n k f)
