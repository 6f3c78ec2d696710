-- The entries of a pattern: where a digit stands in the file, and what it stands for.
-- Assumes nothing.
use Prim.Native.Nat.{ℕ, suc, ◌+◌, ◌-◌, ◌*◌, ◌≤◌, ◌<◌}
use mathlib.Core.Path.{◌≡◌, refl, sym, ap, ◌∙◌}
use mathlib.Core.Logic.{◌≢◌, inl}
use mathlib.Core.List.{List}
use native.Mathlib.Nat.{mul_comm}
use native.Mathlib.Omega.{arith}
use lib.ListN.{length, get_or}
use borrow.Author.Tests.{ne_eqb}
use Rattle.encoding.specs.Bytes.{number_at}
use Rattle.encoding.proofs.Bytes.{number_at_one}
use Rattle.lists.specs.Places.{eight_by_eight, tabulate, pad8, zeros8}
use Rattle.lists.proofs.Places.{get_d_tabulate}
use Rattle.lists.proofs.Rows.{row_within}
use Rattle.patterns.specs.Pattern.{Pattern, digit, entry_of, pattern_entries}
use Rattle.numbers.proofs.Search.{any_false}
use Rattle.rules.proofs.Says.{says_false}
use Rattle.patterns.specs.PatternFile.{bad_digits, pattern_at, pattern_count, pattern_from, pattern_start}
use Rattle.patterns.proofs.Files.{passes_23, start_next, start_within}
use Rattle.patterns.proofs.Tests.{says_misnamed}
use Rattle.pattern_file.specs.declared.layout.Sizes.{Sizes}
use Rattle.pattern_file.specs.Walk.{sizes_at}
use Rattle.maker.specs.Passes.{Passes}
use Rattle.maker.specs.Rows.{Stands, pattern_row}

-- a digit other than 0 stands for the value at the place before it
pub digit_value : (values : List ℕ) (d : ℕ) → d ≢ 0 → get_or values (d - 1) 0 ≡ entry_of values d
unfolding entry_of
digit_value values d some = rw (ne_eqb d 0 some)

-- the sizes that are read are the pattern's
pub sizes_read : (f : List ℕ) (at : ℕ) {p : Sizes} → p ≡ sizes_at f at
    → (p.rows ≡ (pattern_from f at).rows) × (p.columns ≡ (pattern_from f at).columns) × (p.values ≡ (pattern_from f at).values)
unfolding sizes_at pattern_from
sizes_read f at read = rw read (refl, refl, refl)

-- eight places that hold what the digits of a row stand for are the row
pub row_whole : (p : Pattern) (values : List ℕ) (i : ℕ) {columns : ℕ} {row : List ℕ} → columns ≡ p.columns
    → row ≡ pad8 0 (tabulate columns (λ j. entry_of values (digit p i j))) → row ≡ pattern_row p values i
unfolding pattern_row
row_whole p values i same filled = rw same at filled

-- eight places that hold a pattern's rows are its entries
pub entries_whole : (p : Pattern) (values : List ℕ) {rows : ℕ} {entries : List (List ℕ)} → rows ≡ p.rows
    → entries ≡ pad8 zeros8 (tabulate rows (pattern_row p values)) → entries ≡ pattern_entries p values
unfolding pattern_entries eight_by_eight pattern_row
entries_whole p values same filled = rw same at filled

module _ (f : List ℕ) (at i : ℕ) {columns : ℕ} (row : i < (pattern_from f at).rows) (same : columns ≡ (pattern_from f at).columns) where
  -- a row of a pattern that stands in a file lies within it
  pub row_ends : {values : List ℕ} → Stands f at values → at + 3 + columns * i + columns ≤ length f
  row_ends stands =
      let p = pattern_from f at in
      rw same (omega (arith, stands.within, row_within p.columns i p.rows row, mul_comm p.rows p.columns))

  -- a byte of it is the pattern's digit in that column
  pub digit_read : {d : ℕ} (j : ℕ) → j < columns → d ≡ number_at 1 f (at + 3 + columns * i + j) → d ≡ digit (pattern_from f at) i j
  unfolding digit pattern_from
  digit_read j column read =
      let p = pattern_from f at in
      let inside : p.columns * i + j < p.rows * p.columns =
      omega (arith, row_within p.columns i p.rows row, mul_comm p.rows p.columns) in
      let place : at + 3 + columns * i + j ≡ at + 3 + (p.columns * i + j) = rw same (omega arith) in
      read ∙ number_at_one f _ ∙ ap (λ (k : ℕ). get_or f k 0) place
      ∙ sym (get_d_tabulate (p.rows * p.columns) (λ d. get_or f (at + 3 + d) 0) (p.columns * i + j) 0 inside)

-- a pattern of a file that passes stands in it, over as many values as it has
pub pattern_stands : (f : List ℕ) {at : ℕ} (k : ℕ) (values : List ℕ) → at ≡ pattern_start f k → Passes f → k < pattern_count f
    → length values ≡ (pattern_at f k).values → Stands f at values
unfolding bad_digits digit pattern_at
pattern_stands f k values here passes inside counted =
    let filed = (passes_23 f).0 passes.0 in
    let p = pattern_at f k in
    let sized = filed.sizes k inside in
    let none = (says_false (says_misnamed p)).0 ((any_false (pattern_count f) _).0 passes.1 k inside) in
    rw here (record {
      few_rows = sized.rows.1;
      few_columns = sized.columns.1;
      within = omega (arith, start_next f k, start_within filed (suc k) inside);
      named = λ i j a b.
          let place : p.columns * i + j < p.rows * p.columns =
          omega (arith, row_within p.columns i p.rows a, mul_comm p.rows p.columns) in
          let low : ¬ (p.values < digit p i j) = λ l. none (inl (p.columns * i + j, place, l)) in
          omega arith;
    })
