-- A row of the image: in kind 1 a product that grows by a factor a turn, in kind 2 one power; and a row that is alone.
-- Assumes nothing.
use mathlib.Core.Path.{◌≡◌, sym, ap}
use mathlib.Core.Logic.{◌≢◌}
use mathlib.Core.List.{List, [], ◌∷◌}
use Prim.Native.Nat.{ℕ, ◌+◌, ◌*◌, ◌%◌, ◌^◌}
use native.Mathlib.Numerals.{add-one}
use lib.ListN.{get_or}
use Rattle.types.specs.declared.Header.{Header}
use Rattle.lists.specs.Places.{items_at, tabulate, pad8}
use Rattle.numbers.specs.Product.{product}
use Rattle.numbers.proofs.Congruence.{mod_mul_both}
use Rattle.numbers.proofs.Product.{product_zero, product_suc}
use Rattle.sigma.specs.Image.{row_image}
use Rattle.sigma.specs.Instance.{table_with, entry}
use Rattle.sigma.proofs.ByKind.{row_image_exponent, row_image_root}

-- the product of the first j factors of a row, modulo m
pub row_product : Header → List ℕ → List ℕ → ℕ → ℕ
row_product h row x j = product j (λ k. get_or row k 0 ^ get_or x k 0) % h.modulus

module _ (h : Header) (row : List ℕ) (x : List ℕ) where
  -- no factor yet
  pub row_start : 1 % h.modulus ≡ row_product h row x 0
  unfolding row_product
  row_start = ap (λ (k : ℕ). k % h.modulus) (sym (product_zero _))

  -- one factor more
  pub row_turn : (j : ℕ) {value power next : ℕ} → value ≡ row_product h row x j
      → power ≡ get_or row j 0 ^ get_or x j 0 % h.modulus → next ≡ value * power % h.modulus
      → next ≡ row_product h row x (j + 1)
  unfolding row_product
  row_turn j is_value is_power is_next =
      rw (is_next, is_value, is_power, add-one j, product_suc j _) (mod_mul_both h.modulus _ _)

  -- all factors: the row of kind 1 in a table that has it at i
  pub row_exponent : (i : ℕ) → h.kind ≡ 1 → (entries : List (List ℕ)) → row ≡ get_or entries i []
      → row_product h row x h.columns ≡ row_image (table_with h entries) x i
  unfolding row_product entry
  row_exponent i kind entries is_row = rw is_row (sym (row_image_exponent (table_with h entries) kind x i))

-- the row of kind 2
pub row_root : (h : Header) (x : List ℕ) (i : ℕ) → h.kind ≢ 1 → (entries : List (List ℕ))
    → get_or x i 0 ^ h.order % h.modulus ≡ row_image (table_with h entries) x i
row_root h x i kind entries = sym (row_image_root (table_with h entries) kind x i)

-- one value in its place, and zeros beyond it
pub one_place : (n : ℕ) (f : ℕ → ℕ) {value : ℕ} → n ≡ 1 → value ≡ f 0
    → value ∷ 0 ∷ 0 ∷ 0 ∷ 0 ∷ 0 ∷ 0 ∷ 0 ∷ [] ≡ pad8 0 (tabulate n f)
unfolding tabulate items_at pad8
one_place n f one is_value = rw (one, is_value)
