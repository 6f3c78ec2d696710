-- Rows one behind the other: where a row ends, the length and the items of joined rows of equal length, and tables of eight rows of eight.
-- Assumes nothing.
use Prim.Native.Nat.{ℕ, zero, suc, ◌+◌, ◌*◌, ◌≤◌, ◌<◌}
use mathlib.Core.Path.{◌≡◌, refl, sym, ap, ◌∙◌}
use mathlib.Core.List.{List, [], ◌∷◌, ◌++◌, append_assoc, flatten}
use native.Mathlib.Nat.{mul-le-mul_left, mul-zero, mul-suc}
use native.Mathlib.Omega.{arith}
use lib.ListN.{length, get_or, length-append, get_or-append}
use lib.Seq.{get_or-append-add}
use Rattle.lists.specs.Places.{eight_by_eight, items_at, pad8, tabulate, zeros8}
use Rattle.lists.proofs.Places.{
  items_at_add,
  items_at_agree,
  length_tabulate,
  get_d_tabulate,
  get_d_pad8,
  get_d_pad8_inside,
  tabulate_agree,
}

-- a row before the last ends where the next begins, at or before the end of all
pub row_within : (width i n : ℕ) → i < n → width * i + width ≤ width * n
row_within width i n before = omega (arith, mul-le-mul_left width before)

module _ {ℓ} {A : Type ℓ} where
  -- two runs of rows, joined
  pub flatten_append : (xss yss : List (List A)) → flatten (xss ++ yss) ≡ flatten xss ++ flatten yss
  unfolding flatten
  flatten_append [] yss = refl
  flatten_append (xs ∷ xss) yss =
      ap (λ (l : List A). xs ++ l) (flatten_append xss yss) ∙ sym (append_assoc xs (flatten xss) (flatten yss))

  -- rows at a stride of m items are items at the stride of one
  flatten_items_at : (f : ℕ → A) (at step m n : ℕ)
      → flatten (items_at (λ a. items_at f a step m) at (step * m) n) ≡ items_at f at step (m * n)
  unfolding flatten items_at
  flatten_items_at f at step m zero = ap (λ (k : ℕ). items_at f at step k) (sym (mul-zero m))
  flatten_items_at f at step m (suc n) =
      let e : m + m * n ≡ m * suc n = omega (arith, mul-suc m n) in
      ap (λ (l : List A). items_at f at step m ++ l) (flatten_items_at f (at + step * m) step m n)
      ∙ sym (items_at_add f at step m (m * n)) ∙ ap (λ (k : ℕ). items_at f at step k) e

  -- rows of m values of a function, one behind the other, are its first values
  pub flatten_tabulate : (f : ℕ → A) (m n : ℕ) → flatten (tabulate n (λ i. tabulate m (λ j. f (m * i + j)))) ≡ tabulate (m * n) f
  unfolding tabulate
  flatten_tabulate f m n =
      ap flatten
      (items_at_agree (λ i. items_at (λ j. f (m * i + j)) 0 1 m) (λ a. items_at f a 1 m) 0 1 0 (1 * m) n (λ i a.
      items_at_agree (λ j. f (m * (0 + 1 * i) + j)) f 0 1 (0 + 1 * m * i) 1 m (λ j b. ap f (omega arith))))
      ∙ flatten_items_at f 0 1 m n

  -- rows of m items have m items for each
  pub length_flatten : (m : ℕ) (rows : List (List A)) → ((i : ℕ) → i < length rows → length (get_or rows i []) ≡ m)
      → length (flatten rows) ≡ m * length rows
  unfolding flatten
  length_flatten m [] h = sym (mul-zero m)
  length_flatten m (row ∷ rows) h =
      length-append row (flatten rows)
      ∙ omega (arith, h zero (omega arith), length_flatten m rows (λ i b. h (suc i) (omega arith)), mul-suc m (length rows))

  -- item j of row i stands i rows and j items behind the start
  pub get_d_flatten : (m : ℕ) (rows : List (List A)) → ((i : ℕ) → i < length rows → length (get_or rows i []) ≡ m)
      → (i j : ℕ) (d : A) → i < length rows → j < m → get_or (flatten rows) (m * i + j) d ≡ get_or (get_or rows i []) j d
  unfolding flatten
  get_d_flatten m [] h i j d b c = absurd (omega arith)
  get_d_flatten m (row ∷ rows) h zero j d b c =
      let e : m * 0 + j ≡ j = omega (arith, mul-zero m) in
      ap (λ (k : ℕ). get_or (row ++ flatten rows) k d) e
      ∙ get_or-append row (flatten rows) d j (omega (arith, h zero (omega arith)))
  get_d_flatten m (row ∷ rows) h (suc i) j d b c =
      let e : m * suc i + j ≡ length row + (m * i + j) = omega (arith, mul-suc m i, h zero (omega arith)) in
      ap (λ (k : ℕ). get_or (row ++ flatten rows) k d) e ∙ get_or-append-add row (flatten rows) (m * i + j) d
      ∙ get_d_flatten m rows (λ k l. h (suc k) (omega arith)) i j d (omega arith) c

-- ---- eight rows of eight

module _ (m n : ℕ) (f : ℕ → ℕ → ℕ) where
  -- row r of the table
  pub get_d_row : (r : ℕ) → r < m → get_or (eight_by_eight m n f) r [] ≡ pad8 0 (tabulate n (f r))
  unfolding eight_by_eight
  get_d_row r a =
      let rows = tabulate m (λ k. pad8 0 (tabulate n (f k))) in
      let inside : r < length rows = omega (arith, length_tabulate m (λ k. pad8 0 (tabulate n (f k)))) in
      get_d_pad8_inside zeros8 rows r [] inside ∙ get_d_tabulate m (λ k. pad8 0 (tabulate n (f k))) r [] a

  -- the number in row r and column c
  pub get_d_table : (r c : ℕ) → r < m → c < n → get_or (get_or (eight_by_eight m n f) r []) c 0 ≡ f r c
  get_d_table r c a b =
      ap (λ (row : List ℕ). get_or row c 0) (get_d_row r a) ∙ get_d_pad8 0 (tabulate n (f r)) c ∙ get_d_tabulate n (f r) c 0 b

  -- functions that agree in the rows and columns have the same table
  pub table_agree : (g : ℕ → ℕ → ℕ) → ((r c : ℕ) → r < m → c < n → f r c ≡ g r c) → eight_by_eight m n f ≡ eight_by_eight m n g
  unfolding eight_by_eight
  table_agree g same =
      ap (pad8 zeros8)
      (tabulate_agree m (λ r. pad8 0 (tabulate n (f r))) (λ r. pad8 0 (tabulate n (g r)))
      (λ r a. ap (pad8 0) (tabulate_agree n (f r) (g r) (λ c b. same r c a b))))
