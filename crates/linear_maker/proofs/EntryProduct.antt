-- An entry of a plan: where its coefficients stand, and the entry as a product that takes a generator a turn.
-- Assumes nothing.
use Prim.Native.Nat.{ℕ, ◌+◌, ◌*◌, ◌%◌, ◌^◌, ◌≤◌, ◌<◌}
use mathlib.Core.Path.{◌≡◌, sym}
use native.Mathlib.Nat.{mod-eq_of_lt, mul-le-mul_left}
use native.Mathlib.Numerals.{add-one}
use native.Mathlib.Omega.{arith}
use lib.ListN.{get_or, length}
use Rattle.lists.proofs.Rows.{row_within}
use Rattle.numbers.specs.Product.{product}
use Rattle.numbers.proofs.Congruence.{mod_mul_both}
use Rattle.numbers.proofs.Product.{product_suc, product_zero}
use Rattle.linear_forms.specs.Linear.{coefficient, linear_entry}
use Rattle.linear_forms.specs.LinearPlan.{LinearPlan}

-- the coefficient of row i, generator g and column j stands within so many rows of as many generators and columns
pub place_inside : (rows count columns i g j : ℕ) → i < rows → g < count → j < columns
    → (i * count + g ≤ (i * count + g) * columns) × ((i * count + g) * columns + j < rows * count * columns)
place_inside rows count columns i g j row generator column =
    let run : i * count + g < rows * count = omega (arith, row_within count i rows row) in
    let some : 1 ≤ columns = omega arith in
    (omega (arith, mul-le-mul_left (i * count + g) some), omega (arith, row_within columns (i * count + g) (rows * count) run))

module _ (p : LinearPlan) (i j : ℕ) where
  -- the product over the first generators of generator^coefficient mod m
  pub entry_so_far : ℕ → ℕ
  entry_so_far count = product count (λ g. get_or p.generators g 0 ^ coefficient p i g j) % p.modulus

  -- over no generator it is 1
  pub entry_start : 1 < p.modulus → 1 ≡ entry_so_far 0
  unfolding entry_so_far
  entry_start large = rw product_zero (sym (mod-eq_of_lt large))

  -- a generator more
  pub entry_turn : (g : ℕ) {entry power next : ℕ} → entry ≡ entry_so_far g
      → power ≡ get_or p.generators g 0 ^ coefficient p i g j % p.modulus → next ≡ entry * power % p.modulus
      → next ≡ entry_so_far (g + 1)
  unfolding entry_so_far
  entry_turn g is_entry is_power is_next =
      rw (is_next, is_entry, is_power, add-one g, product_suc) (mod_mul_both p.modulus _ _)

  -- over all generators it is the entry
  pub entry_end : {g entry : ℕ} → g ≡ length p.generators → entry ≡ entry_so_far g → entry ≡ linear_entry p i j
  unfolding entry_so_far linear_entry
  entry_end all is_entry = rw all at is_entry
