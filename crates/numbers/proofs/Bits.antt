-- Laws of masks: which bits the mask of a test has, and that a number is the mask of its bits.
-- Assumes nothing.
use Prim.Native.Nat.{ℕ, zero, suc, ◌+◌, ◌-◌, ◌*◌, ◌/◌, ◌%◌, ◌^◌, ◌≤◌, ◌<◌}
use mathlib.Core.Path.{◌≡◌, refl, sym, ◌∙◌, ap, ap₂, subst}
use mathlib.Core.Bool.{Bool, true, false, false≢true, cond}
use mathlib.Core.Logic.{◌↔◌}
use native.Mathlib.Nat.{add-zero, pow-zero, pow-suc, add-mul-div_left, add-mul-mod_self_right, add-div_right, div-eq_of_lt}
use native.Mathlib.Decide.{dec_lt}
use native.Mathlib.Omega.{arith}
use lib.Dec.{eqb}
use lib.Pow.{pow-add, pow_mono, pow_pos}
use borrow.Author.Tests.{eq-eqb, eqb-true}
use Rattle.numbers.specs.Bits.{bit, mask_below}
use Rattle.numbers.specs.Product.{sum}
use Rattle.numbers.proofs.Product.{sum_agree}

-- ---- bits

-- a bit is set exactly where the digit at its power of two is 1
pub bit_digit : (mask i : ℕ) → (bit mask i ≡ true) ↔ (mask / 2 ^ i % 2 ≡ 1)
unfolding bit
bit_digit mask i = (eqb-true _ 1, eq-eqb _ 1)

-- a power of two does not change the bits below it
power_below : (mask n i : ℕ) → i < n → bit (mask + 2 ^ n) i ≡ bit mask i
unfolding bit
power_below mask n i below =
    let k : ℕ = n - suc i in
    let whole : n ≡ i + suc k = omega arith in
    let power : 2 ^ n ≡ 2 ^ i * (2 ^ k * 2) =
    ap (λ (x : ℕ). 2 ^ x) whole ∙ pow-add 2 i (suc k) ∙ ap (λ (x : ℕ). 2 ^ i * x) (pow-suc 2 k) in
    let quotient : (mask + 2 ^ n) / 2 ^ i ≡ mask / 2 ^ i + 2 ^ k * 2 =
    ap (λ (x : ℕ). (mask + x) / 2 ^ i) power ∙ add-mul-div_left mask (2 ^ k * 2) (pow_pos i) in
    ap (λ (x : ℕ). eqb x 1) (ap (λ (x : ℕ). x % 2) quotient ∙ add-mul-mod_self_right (mask / 2 ^ i) (2 ^ k) 2)

-- a number below a power of two has no bit at it or beyond
pub bit_beyond : (mask n i : ℕ) → mask < 2 ^ n → n ≤ i → bit mask i ≡ false
unfolding bit
bit_beyond mask n i small past =
    let less : mask < 2 ^ i = omega (arith, pow_mono past) in
    ap (λ (x : ℕ). eqb (x % 2) 1) (div-eq_of_lt less)

-- with the power of two it has that bit
power_at : (mask n : ℕ) → mask < 2 ^ n → bit (mask + 2 ^ n) n ≡ true
unfolding bit
power_at mask n small =
    let quotient : (mask + 2 ^ n) / 2 ^ n ≡ 1 = add-div_right mask (pow_pos n) ∙ ap (λ (x : ℕ). x + 1) (div-eq_of_lt small) in
    ap (λ (x : ℕ). eqb (x % 2) 1) quotient

-- the same of a power of two that is added or not
module _ (mask n : ℕ) where
  added_below : (b : Bool) (i : ℕ) → i < n → bit (mask + cond b (2 ^ n) 0) i ≡ bit mask i
  added_below true i below = power_below mask n i below
  added_below false i below = ap (λ (x : ℕ). bit x i) (add-zero mask)

  added_at : (b : Bool) → mask < 2 ^ n → bit (mask + cond b (2 ^ n) 0) n ≡ b
  added_at true small = power_at mask n small
  added_at false small = ap (λ (x : ℕ). bit x n) (add-zero mask) ∙ bit_beyond mask n n small (omega arith)

  added_small : (b : Bool) → mask < 2 ^ n → mask + cond b (2 ^ n) 0 < 2 ^ suc n
  added_small true small = omega (arith, pow-suc 2 n)
  added_small false small = omega (arith, pow-suc 2 n)

-- ---- masks

-- the mask of no numbers
pub mask_zero : (p : ℕ → Bool) → mask_below 0 p ≡ 0
unfolding mask_below sum
mask_zero p = refl

-- one number more
pub mask_suc : (n : ℕ) (p : ℕ → Bool) → mask_below (suc n) p ≡ mask_below n p + cond (p n) (2 ^ n) 0
unfolding mask_below sum
mask_suc n p = refl

-- tests that agree below n have one mask
pub mask_agree : (n : ℕ) (p q : ℕ → Bool) → ((i : ℕ) → i < n → p i ≡ q i) → mask_below n p ≡ mask_below n q
unfolding mask_below
mask_agree n p q same = sum_agree n _ _ (λ i h. ap (λ (b : Bool). cond b (2 ^ i) 0) (same i h))

-- no bit at n or beyond is set
pub mask_small : (n : ℕ) (p : ℕ → Bool) → mask_below n p < 2 ^ n
mask_small zero p = rw (mask_zero p) (pow_pos 0)
mask_small (suc n) p = subst (λ (x : ℕ). x < 2 ^ suc n) (sym (mask_suc n p)) (added_small (mask_below n p) n (p n) (mask_small n p))

-- below n the bits are the test's
pub mask_bit : (n : ℕ) (p : ℕ → Bool) (i : ℕ) → i < n → bit (mask_below n p) i ≡ p i
mask_bit zero p i inside = absurd (omega arith)
mask_bit (suc n) p i inside =
    ap (λ (x : ℕ). bit x i) (mask_suc n p)
    ∙ elim (dec_lt i n) [
      | yes before ↦ added_below (mask_below n p) n (p n) i before ∙ mask_bit n p i before
      | no not_before ↦
          let last : i ≡ n = omega arith in
          ap (bit (mask_below n p + cond (p n) (2 ^ n) 0)) last ∙ added_at (mask_below n p) n (p n) (mask_small n p) ∙ ap p (sym last)
    ]

-- so bit i is set exactly if i is below n and passes the test
pub mask_bits : (n : ℕ) (p : ℕ → Bool) (i : ℕ) → (bit (mask_below n p) i ≡ true) ↔ ((i < n) × (p i ≡ true))
mask_bits n p i = (
  λ set. elim (dec_lt i n) [
    | yes inside ↦ (inside, sym (mask_bit n p i inside) ∙ set)
    | no outside ↦ absurd (false≢true (sym (bit_beyond (mask_below n p) n i (mask_small n p) (omega arith)) ∙ set))
  ],
  λ (inside, passes). mask_bit n p i inside ∙ passes,
)

-- a number below 2^n is the mask of its bits
mask_of_bits : (n mask : ℕ) → mask < 2 ^ n → mask_below n (bit mask) ≡ mask
mask_of_bits zero mask small = mask_zero (bit mask) ∙ omega (arith, pow-zero 2)
mask_of_bits (suc n) mask small = mask_suc n (bit mask) ∙ elim (dec_lt mask (2 ^ n)) [
  | yes less ↦
      ap₂ (λ (x : ℕ) (b : Bool). x + cond b (2 ^ n) 0) (mask_of_bits n mask less) (bit_beyond mask n n less (omega arith)) ∙ add-zero mask
  | no not_less ↦
      let rest : ℕ = mask - 2 ^ n in
      let below : rest < 2 ^ n = omega (arith, pow-suc 2 n) in
      let whole : mask ≡ rest + 2 ^ n = omega arith in
      let bits = mask_agree n (bit mask) (bit rest) (λ i h. ap (λ (x : ℕ). bit x i) whole ∙ power_below rest n i h) in
      ap₂ (λ (x : ℕ) (b : Bool). x + cond b (2 ^ n) 0) (bits ∙ mask_of_bits n rest below)
      (ap (λ (x : ℕ). bit x n) whole ∙ power_at rest n below) ∙ sym whole
]

-- tests that are true together are equal
true_together : (a b : Bool) → (a ≡ true) ↔ (b ≡ true) → a ≡ b
true_together true b same = sym (same.0 refl)
true_together false true same = same.1 refl
true_together false false same = refl

-- and so of every test that passes exactly where its bits are set
pub mask_is : (n : ℕ) (p : ℕ → Bool) (mask : ℕ) → mask < 2 ^ n → ((i : ℕ) → i < n → (p i ≡ true) ↔ (bit mask i ≡ true))
    → mask_below n p ≡ mask
mask_is n p mask small same = mask_agree n p (bit mask) (λ i h. true_together (p i) (bit mask i) (same i h)) ∙ mask_of_bits n mask small
