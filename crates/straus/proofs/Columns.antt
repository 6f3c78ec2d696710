-- Four rows column by column: products of powers over the columns are those over the rows' entries, and over eight columns those
-- over the first n, since ones stand beyond.
-- Assumes nothing.
use mathlib.Core.Path.{◌≡◌, refl, ap, ◌∙◌}
use mathlib.Core.List.{List, [], ◌∷◌}
use Prim.Native.Nat.{ℕ, zero, suc, ◌+◌, ◌-◌, ◌*◌, ◌%◌, ◌^◌, ◌≤◌, ◌<◌}
use native.Mathlib.Nat.{add-suc, add-zero, mul-one}
use native.Mathlib.Omega.{arith}
use lib.ListN.{get_or-eq_default, get_or, length, length-append, length-replicate}
use Rattle.lists.specs.Places.{items_at, tabulate, pad8}
use Rattle.lists.proofs.Places.{get_d_pad8, get_d_tabulate, length_tabulate, tabulate_agree, tabulate_at}
use Rattle.numbers.specs.Product.{product}
use Rattle.numbers.proofs.Powers.{one_pow}
use Rattle.numbers.proofs.Product.{product_agree, product_suc}
use Rattle.powers.specs.declared.four.Four.{Four}
use Rattle.powers.specs.Places.{lanes, no_four}
use Rattle.powers.proofs.Lanes.{lane, lane_same}
use Rattle.straus.specs.MultiPowers.{column_of, entry_of, lane_of, multi_powers, ones}

-- the four numbers of column j
lanes_column : (a b c d : List ℕ) (j : ℕ) → lanes (column_of a b c d j) ≡ tabulate 4 (λ k. entry_of (a ∷ b ∷ c ∷ d ∷ []) k j)
unfolding lanes tabulate items_at
lanes_column a b c d j = refl

-- factors of 1 after the first n change no product
product_ones : (n r : ℕ) (g : ℕ → ℕ) → ((j : ℕ) → n ≤ j → j < n + r → g j ≡ 1) → product (n + r) g ≡ product n g
product_ones n zero g after = ap (λ (k : ℕ). product k g) (add-zero n)
product_ones n (suc r) g after =
    ap (λ (k : ℕ). product k g) (add-suc n r) ∙ product_suc (n + r) g
    ∙ ap (λ (x : ℕ). product (n + r) g * x) (after (n + r) (omega arith) (omega (arith, add-suc n r))) ∙ mul-one _
    ∙ product_ones n r g (λ j from to. after j from (omega (arith, add-suc n r)))

-- what is read inside a list does not hang on the default
any_default : (l : List Four) (j : ℕ) (d e : Four) → j < length l → get_or l j d ≡ get_or l j e
any_default [] j d e inside = absurd (omega arith)
any_default (x ∷ l) zero d e inside = refl
any_default (x ∷ l) (suc j) d e inside = any_default l j d e (omega arith)

module _ (m n : ℕ) (a b c d exponents : List ℕ) (columns : List Four) (are : columns ≡ pad8 ones (tabulate n (column_of a b c d)))
    (most : n ≤ 8) where
  -- a column is read as padding by ones leaves it
  column_read : (j : ℕ) → j < 8 → get_or columns j no_four ≡ get_or (tabulate n (column_of a b c d)) j ones
  unfolding pad8
  column_read j within =
      let long = length_tabulate n (column_of a b c d) in
      let eight : length columns ≡ 8 = rw (are, length-append, length-replicate, long) (omega arith) in
      any_default columns j no_four ones (omega arith) ∙ ap (λ (l : List Four). get_or l j ones) are
      ∙ get_d_pad8 ones (tabulate n (column_of a b c d)) j

  -- one of the first n columns
  column_inside : (j : ℕ) → j < n → (k : ℕ) → k < 4 → lane_of columns k j ≡ entry_of (a ∷ b ∷ c ∷ d ∷ []) k j
  column_inside j within k inside =
      ap (λ (column : Four). lane column k)
      (column_read j (omega arith) ∙ get_d_tabulate n (column_of a b c d) j ones within)
      ∙ tabulate_at 4 _ 0 (lanes_column a b c d j) k inside

  -- one after them
  column_after : (j : ℕ) → n ≤ j → j < 8 → (k : ℕ) → k < 4 → lane_of columns k j ≡ 1
  column_after j from to k inside =
      ap (λ (column : Four). lane column k)
      (column_read j to
      ∙ get_or-eq_default (tabulate n (column_of a b c d)) ones {n = j} (omega (arith, length_tabulate n (column_of a b c d))))
      ∙ lane_same 1 k inside

  -- the products over the first n columns of four rows
  pub columns_rows : multi_powers m 4 n (lane_of columns) exponents ≡ multi_powers m 4 n (entry_of (a ∷ b ∷ c ∷ d ∷ [])) exponents
  unfolding multi_powers
  columns_rows =
      tabulate_agree 4 _ _ (λ k inside. ap (λ (x : ℕ). x % m)
      (product_agree n _ _ (λ j within. ap (λ (x : ℕ). x ^ get_or exponents j 0) (column_inside j within k inside))))

  -- and over all eight
  pub eight_rows_law : multi_powers m 4 8 (lane_of columns) exponents ≡ multi_powers m 4 n (entry_of (a ∷ b ∷ c ∷ d ∷ [])) exponents
  unfolding multi_powers
  eight_rows_law =
      let rest : 8 ≡ n + (8 - n) = omega arith in
      tabulate_agree 4 _ _ (λ k inside. ap (λ (x : ℕ). x % m)
      (ap (λ (c : ℕ). product c (λ j. lane_of columns k j ^ get_or exponents j 0)) rest
      ∙ product_ones n (8 - n) _ (λ j from to.
      ap (λ (x : ℕ). x ^ get_or exponents j 0) (column_after j from (omega arith) k inside) ∙ one_pow _)))
      ∙ columns_rows

-- four rows of an array, from row i on
pub rows_from : (m n i : ℕ) (entries : List (List ℕ)) (exponents : List ℕ)
    → multi_powers m 4 n (entry_of (get_or entries i [] ∷ get_or entries (i + 1) [] ∷ get_or entries (i + 2) [] ∷ get_or entries (i + 3) [] ∷ []))
    exponents ≡ tabulate 4 (λ k. product n (λ j. entry_of entries (i + k) j ^ get_or exponents j 0) % m)
unfolding multi_powers tabulate items_at
rows_from m n i entries exponents = rw (add-zero i)
