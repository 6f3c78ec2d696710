-- The entries of a sheet by rows: they lie within the sheet and are its entries.
-- Assumes nothing.
use Prim.Native.Nat.{ℕ, ◌+◌, ◌*◌, ◌≤◌}
use mathlib.Core.Path.{◌≡◌, ap, ◌∙◌}
use mathlib.Core.Logic.{◌≢◌}
use mathlib.Core.List.{List}
use native.Mathlib.Omega.{arith}
use lib.ListN.{length}
use borrow.Author.Tests.{eq-eqb, ne_eqb}
use Rattle.types.specs.declared.Header.{Header}
use Rattle.lists.specs.Places.{pad8, tabulate}
use Rattle.lists.proofs.Places.{items_at_tabulate, tabulate_agree}
use Rattle.encoding.specs.Bytes.{number_at, words_at}
use Rattle.sigma.specs.Instance.{is_exponent}
use Rattle.formats.specs.Sheet.{entry_count, sheet_length, zeros64, entries_of}
use Rattle.instance.specs.Shaped.{Shaped}
use Rattle.instance.specs.Rows.{entry_at, rows_at}

-- words that begin where row i does are the row's entries
pub row_words : (s : List ℕ) (columns i : ℕ)
    → pad8 0 (words_at s (20 + 4 * columns * i) columns) ≡ pad8 0 (tabulate columns (entry_at s columns i))
unfolding entry_at
row_words s columns i =
    ap (pad8 0)
    (items_at_tabulate (number_at 4 s) (20 + 4 * columns * i) 4 columns
    ∙ tabulate_agree columns _ (entry_at s columns i) (λ j _. ap (number_at 4 s) (omega arith)))

module _ (s : List ℕ) (h : Header) where
  -- in kind 1 the rows lie within the sheet
  pub rows_within : Shaped s h → h.kind ≡ 1 → 20 + 4 * h.columns * h.rows ≤ length s
  unfolding sheet_length entry_count is_exponent
  rows_within shaped kind = omega (arith, rw (eq-eqb h.kind 1 kind) at shaped.exact)

  -- and are its entries
  pub entries_rows : h.kind ≡ 1 → rows_at s h.columns h.rows ≡ entries_of s h
  unfolding rows_at entry_at entries_of is_exponent
  entries_rows kind = rw (eq-eqb h.kind 1 kind)

  -- in kind 2 all entries are 0
  pub entries_none : h.kind ≢ 1 → zeros64 ≡ entries_of s h
  unfolding entries_of is_exponent
  entries_none kind = rw (ne_eqb h.kind 1 kind)
