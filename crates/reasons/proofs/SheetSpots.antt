-- The spots of a sheet, 2 to 11: each is the first value that breaks its rule, or the sheet's length.
-- Assumes nothing.
use Prim.Native.Nat.{ℕ, zero, suc, ◌+◌, ◌*◌, ◌/◌, ◌%◌, ◌<◌}
use mathlib.Core.Path.{◌≡◌, refl, sym, ap, subst, ◌∙◌}
use mathlib.Core.List.{List}
use mathlib.Core.Logic.Iff
use mathlib.Core.Logic.{◌↔◌, ◌≢◌, ◌⊎◌, inl, inr, ⊎_elim}
use native.Mathlib.Nat.{div-add-mod, div-lt_iff_lt-mul, mod-lt, mul-zero}
use native.Mathlib.Omega.{arith}
use lib.ListN.{get_or, length}
use Rattle.encoding.specs.Bytes.{number_at}
use Rattle.lists.proofs.Rows.{row_within}
use Rattle.rules.proofs.Explains.{Explained, Explains, explain}
use Rattle.rules.proofs.Says.{says_elim, says_equal, says_false, says_less, says_or}
use Rattle.sigma.specs.Element.{Element, is_element}
use Rattle.sigma.specs.Instance.{table_of, entry}
use Rattle.sigma.specs.Reads.{Differ}
use Rattle.sigma.specs.Refusals.{Refusal11}
use Rattle.sigma.proofs.Calculus.{says_stable}
use Rattle.sigma.proofs.Tests.{says_element}
use Rattle.formats.specs.Refusals.{load_conditions}
use Rattle.formats.specs.Sheet.{entry_count, header_of, instance_of, sheet_length, sheet_mark, statement_of, version_of}
use Rattle.formats.proofs.ByteLayout.{word_at}
use Rattle.formats.proofs.Entries.{entry_count_exponent, entry_count_root}
use Rattle.formats.proofs.SheetRead.{entry_read}
use Rattle.reasons.specs.Breaks.{StatementAt}
use Rattle.reasons.specs.Reason.{first_non_element, sheet_spot, spot_of}
use Rattle.reasons.proofs.Named.{Broken, Named, caused, field_explained, in_sheet, length_named, value_named}
use Rattle.reasons.proofs.Words.{BadWord, word_named, words_explained}

-- ---- where the statement and the entries stand

module _ (s : List ℕ) where
  -- the statement begins behind the entries that the sheet has
  statement_at_law : ((header_of s).kind ≡ 1) ⊎ ((header_of s).kind ≡ 2) → StatementAt s (20 + 4 * entry_count (header_of s))
  unfolding header_of
  statement_at_law (inl one) = inl (one, ap (λ (n : ℕ). 20 + 4 * n) (entry_count_exponent (header_of s) one))
  statement_at_law (inr two) = inr (two, ap (λ (n : ℕ). 20 + 4 * n) (entry_count_root (header_of s) (λ one. omega arith)))

  -- and nowhere else
  statement_only : (start : ℕ) → StatementAt s start → start ≡ 20 + 4 * entry_count (header_of s)
  unfolding header_of
  statement_only start (inl (one, same)) = omega (arith, entry_count_exponent (header_of s) one)
  statement_only start (inr (two, same)) = omega (arith, entry_count_root (header_of s) (λ one. omega arith))

  -- a value of the statement
  statement_word : (i : ℕ) → i < (header_of s).rows
      → get_or (instance_of s).statement i 0 ≡ number_at 4 s (20 + 4 * entry_count (header_of s) + 4 * i)
  unfolding instance_of statement_of
  statement_word = word_at s (20 + 4 * entry_count (header_of s)) (header_of s).rows

-- a product that is above some number has a factor above 0
positive : (rows columns k : ℕ) → k < rows * columns → 0 < columns
positive rows zero k h = absurd (omega (arith, mul-zero rows))
positive rows (suc columns) k h = omega arith

-- the value at offset o is one of the entries of a sheet, and a bad one
abbrev BadEntry : (ℕ → Type 0) → List ℕ → ℕ → ℕ → ℕ → Type 0
BadEntry Good bytes rows columns o =
    (i : ℕ) × (j : ℕ) × (i < rows) × (j < columns) × (o ≡ 20 + 4 * (columns * i + j)) × (¬ Good (number_at 4 bytes o))

-- the entries, row by row, are one run of words
entry_word : (Good : ℕ → Type 0) (bytes : List ℕ) (rows columns o : ℕ)
    → BadEntry Good bytes rows columns o ↔ BadWord Good bytes 20 (rows * columns) o
entry_word Good bytes rows columns o = (
  λ (i, j, a, b, same, bad). (columns * i + j, omega (arith, row_within columns i rows a), same, bad),
  λ (k, inside, same, bad).
      let some : 0 < columns = positive rows columns k inside in
      let place : columns * (k / columns) + k % columns ≡ k = div-add-mod k columns in
      (k / columns, k % columns, (div-lt_iff_lt-mul some).1 inside, mod-lt k some, omega arith, bad),
)

-- ---- facts, put together in two ways

-- neither of two facts holds
neither : (A B C : Type 0) → (A × (¬ B) × (¬ C)) ↔ (A × (¬ (B ⊎ C)))
neither A B C = (λ x. (x.0, ⊎_elim x.1 x.2), λ x. (x.0, (λ b. x.1 (inl b)), λ c. x.1 (inr c)))

-- one of the first two of five facts holds, or one of the others
sides : (A B C D E : Type 0) → (A ⊎ B ⊎ C ⊎ D ⊎ E) ↔ ((A ⊎ B) ⊎ ((C ⊎ D) ⊎ E))
sides A B C D E = (
  ⊎_elim (λ a. inl (inl a))
      (⊎_elim (λ b. inl (inr b)) (⊎_elim (λ c. inr (inl (inl c))) (⊎_elim (λ d. inr (inl (inr d))) (λ e. inr (inr e))))),
  ⊎_elim (⊎_elim (λ a. inl a) (λ b. inr (inl b)))
      (⊎_elim (⊎_elim (λ c. inr (inr (inl c))) (λ d. inr (inr (inr (inl d))))) (λ e. inr (inr (inr (inr e))))),
)

module _ (s f : List ℕ) where
  -- ---- the numbers that ask more than one field

  -- 2: a length under 20, else the mark
  start_explained : Explained (Named s f) (Broken s f) 2 ((length s < 20) ⊎ Differ 3 s sheet_mark)
  unfolding spot_of sheet_spot sheet_mark
  start_explained =
      let breaks = in_sheet s f 2 (λ o none. none) in
      let short = says_less (length s) 20 in (
        λ wrong.
            says_elim short (λ low. length_named s f 2 (length s) (refl, low) (rw (short.complete low))) λ long.
            let other = ⊎_elim (λ low. absurd (long low)) (λ differs. differs) wrong in
            value_named s f 2 breaks 0 (refl, omega arith, other) (λ p before. absurd (omega arith)) (rw ((says_false short).1 long)),
        caused s f 2 breaks (λ o x. inr x.2) (λ l x. inl (omega arith)),
      )

  -- 7: the rows, else the columns
  size_explained : Explained (Named s f) (Broken s f) 7
      (((header_of s).rows < 1) ⊎ (8 < (header_of s).rows) ⊎ ((header_of s).columns < 1) ⊎ (8 < (header_of s).columns) ⊎
      (((header_of s).kind ≡ 2) × ((header_of s).rows ≢ (header_of s).columns)))
  unfolding spot_of sheet_spot header_of
  size_explained =
      let breaks = in_sheet s f 7 (λ o none. none) in
      let rows = says_or (says_less (number_at 1 s 18) 1) (says_less 8 (number_at 1 s 18)) in (
        λ wrong.
            says_elim rows
            (λ outside.
            value_named s f 7 breaks 18 (inl (refl, outside)) (λ p before. ⊎_elim (λ x. omega arith) (λ x. omega arith))
            (rw (rows.complete outside))) λ inside.
            let columns = ⊎_elim (λ outside. absurd (inside outside)) (λ c. c) ((sides _ _ _ _ _).0 wrong) in
            value_named s f 7 breaks 19 (inr (refl, columns)) (λ p before. ⊎_elim (λ x. inside x.1) (λ x. omega arith))
            (rw ((says_false rows).1 inside)),
        caused s f 7 breaks (λ o x. (sides _ _ _ _ _).1 (⊎_elim (λ a. inl a.1) (λ b. inr b.1) x)) (λ l none. absurd none),
      )

  -- 10: the first entry that is no group element
  entry_explained : Explained (Named s f) (Broken s f) 10
      (((header_of s).kind ≡ 1) × ((i : ℕ) × (j : ℕ) × (i < (header_of s).rows) × (j < (header_of s).columns) ×
      (¬ Element (header_of s) (entry (table_of (instance_of s)) i j))))
  unfolding spot_of sheet_spot first_non_element header_of
  entry_explained =
      let h = header_of s in
      let breaks = in_sheet s f 10 (λ o none. none) in
      let place = entry_word (Element h) s h.rows h.columns in (
        λ (one, (i, j, a, b, bad)).
            let stored = subst (λ (v : ℕ). ¬ Element h v) (entry_read s one i j a b) bad in
            word_named (Element h) (is_element h) (says_element h) s 20 (h.rows * h.columns) s f 10
            (λ o. (λ x. (place o).0 ((breaks o).0 x).1, λ word. (breaks o).1 (one, (place o).1 word))) refl _
            ((place _).0 (i, j, a, b, refl, stored)),
        caused s f 10 breaks
            (λ o (one, (i, j, a, b, same, bad)).
            let read = ap (number_at 4 s) same ∙ sym (entry_read s one i j a b) in
            (one, (i, j, a, b, subst (λ (v : ℕ). ¬ Element h v) read bad)))
            (λ l none. absurd none),
      )

  module _ (kind : ((header_of s).kind ≡ 1) ⊎ ((header_of s).kind ≡ 2)) where
    -- 9: the length
    length_explained : Explained (Named s f) (Broken s f) 9 (length s ≢ sheet_length (header_of s))
    unfolding spot_of sheet_spot sheet_length header_of
    length_explained = (
      λ other. length_named s f 9 (length s) (refl, (20 + 4 * entry_count (header_of s), statement_at_law s kind, other)) refl,
      caused s f 9 (in_sheet s f 9 (λ o none. none)) (λ o none. absurd none)
          (λ l (same, (start, stands, other)) exact. other (omega (arith, statement_only s start stands))),
    )

    -- 11: the first value of the statement that is no group element
    statement_explained : Explained (Named s f) (Broken s f) 11 (Refusal11 (instance_of s))
    unfolding spot_of sheet_spot first_non_element header_of instance_of
    statement_explained =
        let h = header_of s in
        let start : ℕ = 20 + 4 * entry_count h in
        words_explained (Element h) (is_element h) (says_element h) s start h.rows s f 11
        (λ o. Iff.trans (in_sheet s f 11 (λ p none. none) o) (
          λ (i, from, inside, stands, same, bad). (i, inside, omega (arith, statement_only s from stands), bad),
          λ (i, inside, same, bad). (i, start, inside, statement_at_law s kind, same, bad),
        ))
        refl (λ l none. none) (instance_of s).statement (statement_word s)

  -- ---- all of them

  -- 2 to 11
  pub sheet_explained : Explains (Named s f) (Broken s f) (load_conditions s)
  unfolding spot_of sheet_spot header_of instance_of version_of
  sheet_explained =
      explain start_explained λ start.
      explain (field_explained s f 3 3 (in_sheet s f 3 (λ o none. none)) (λ l none. none) refl) λ version.
      explain
      (field_explained s f 4 5 (λ o. Iff.trans (in_sheet s f 4 (λ p none. none) o) (neither _ _ _)) (λ l none. none) refl) λ kind.
      explain (field_explained s f 5 6 (in_sheet s f 5 (λ o none. none)) (λ l none. none) refl) λ modulus.
      explain (field_explained s f 6 10 (in_sheet s f 6 (λ o none. none)) (λ l none. none) refl) λ order.
      explain size_explained λ size.
      explain (field_explained s f 8 14 (in_sheet s f 8 (λ o none. none)) (λ l none. none) refl) λ count.
      let known = says_stable (says_or (says_equal (number_at 1 s 5) 1) (says_equal (number_at 1 s 5) 2)) kind in
      explain (length_explained known) λ exact.
      explain entry_explained λ entries.
      explain (statement_explained known) λ statement. tt
