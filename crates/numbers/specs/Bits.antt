-- Masks: a set of numbers as the bits of one number, bit i for the number i.
-- Assumes nothing.
use Rattle.std.specs.Prelude.{ℕ, ◌/◌, ◌%◌, ◌^◌, Bool, cond, eqb}
use Rattle.numbers.specs.Product.{sum}

-- whether bit i of a mask is set
unfoldable pub bit : ℕ → ℕ → Bool
bit mask i = eqb (mask / 2 ^ i % 2) 1

-- the mask of the numbers below n that pass a test: the sum of 2^i over them
unfoldable pub mask_below : ℕ → (ℕ → Bool) → ℕ
mask_below n p = sum n (λ i. cond (p i) (2 ^ i) 0)
