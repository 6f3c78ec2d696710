-- The values of a sheet that loads, written: the very bytes that they were read from.
-- Assumes nothing.
use Prim.Native.Nat.{ℕ, ◌+◌, ◌*◌, ◌<◌}
use mathlib.Core.Path.{◌≡◌, refl, sym, ap, ap₂, ◌∙◌}
use mathlib.Core.Logic.{inl, inr}
use mathlib.Core.List.{List, [], ◌++◌, flatten}
use native.Mathlib.Nat.{mul_comm}
use native.Mathlib.Omega.{arith}
use lib.ListN.{take}
use lib.Seq.{take_all}
use Rattle.encoding.specs.Bytes.{bytes_of, number_at, words_at, AllBytes}
use Rattle.encoding.proofs.Bytes.{take_bytes_of, take_bytes_of_each}
use Rattle.lists.specs.Places.{items_at, places, tabulate}
use Rattle.lists.proofs.Places.{length_items_at, items_at_tabulate, tabulate_agree, places_pad8, places_whole}
use Rattle.lists.proofs.Rows.{flatten_tabulate, get_d_table}
use Rattle.rules.proofs.Says.{says_decides}
use Rattle.sigma.specs.Instance.{table_of, entry}
use Rattle.sigma.proofs.ByKind.{exponent_kind}
use Rattle.sigma.proofs.Tests.{says_exponent}
use Rattle.formats.specs.Encode.{header_bytes, stored_entries, sheet_of}
use Rattle.formats.specs.Meaning.{Loads}
use Rattle.formats.specs.Sheet.{
  entries_of,
  entry_count,
  header_of,
  instance_of,
  sheet_length,
  sheet_mark,
  statement_of,
  version_of,
}
use Rattle.formats.proofs.Entries.{
  entry_count_exponent,
  entry_count_root,
  entry_row,
  stored_entries_exponent,
  stored_entries_root,
}

module _ (s : List ℕ) where
  -- the entry in row r and column c stands r rows and c entries behind the fixed fields
  pub entry_read : (header_of s).kind ≡ 1 → (r c : ℕ) → r < (header_of s).rows → c < (header_of s).columns
      → entry (table_of (instance_of s)) r c ≡ number_at 4 s (20 + 4 * ((header_of s).columns * r + c))
  unfolding entry instance_of entries_of
  entry_read e r c a b =
      let h = header_of s in
      rw (exponent_kind h e) (get_d_table h.rows h.columns (λ i j. number_at 4 s (20 + 4 * (h.columns * i + j))) r c a b)

  -- what is stored of the entries is what was read, one after the other
  pub stored_entries_read : stored_entries (instance_of s) ≡ words_at s 20 (entry_count (header_of s))
  unfolding instance_of items_at
  stored_entries_read = elim (says_decides (says_exponent (header_of s))) [
    | inl e ↦
        let h = header_of s in
        let f : ℕ → ℕ = λ k. number_at 4 s (20 + 4 * k) in
        let rows =
        tabulate_agree h.rows (entry_row (instance_of s)) (λ r. tabulate h.columns (λ c. f (h.columns * r + c))) (λ r a.
        tabulate_agree h.columns (entry (table_of (instance_of s)) r) (λ c. f (h.columns * r + c)) (λ c b. entry_read e r c a b)) in
        stored_entries_exponent (instance_of s) e ∙ ap flatten rows ∙ flatten_tabulate f h.columns h.rows
        ∙ sym (items_at_tabulate (number_at 4 s) 20 4 (h.columns * h.rows))
        ∙ ap (words_at s 20) (mul_comm h.columns h.rows ∙ sym (entry_count_exponent h e))
    | inr n ↦ rw (stored_entries_root (instance_of s) n, entry_count_root (header_of s) n)
  ]

  -- what is stored of the statement is what was read
  pub statement_read : places (header_of s).rows (statement_of s (header_of s))
      ≡ words_at s (20 + 4 * entry_count (header_of s)) (header_of s).rows
  unfolding statement_of
  statement_read = places_pad8 (header_of s).rows _ ∙ places_whole (header_of s).rows _ (length_items_at _ _ 4 (header_of s).rows)

  -- the fixed fields are written as the numbers that were read, each in its place
  header_read : header_bytes (header_of s)
      ≡ sheet_mark ++ bytes_of 2 1 ++ bytes_of 1 (number_at 1 s 5) ++ bytes_of 4 (number_at 4 s 6) ++ bytes_of 4 (number_at 4 s 10) ++
      bytes_of 4 (number_at 4 s 14) ++ bytes_of 1 (number_at 1 s 18) ++ bytes_of 1 (number_at 1 s 19)
  unfolding header_bytes header_of
  header_read = refl

  -- the sheet of the values of a sheet that loads is that sheet
  pub sheet_of_instance_of : Loads s → AllBytes s → sheet_of (instance_of s) ≡ s
  unfolding sheet_of instance_of version_of sheet_length
  sheet_of_instance_of l b =
      let h = header_of s in
      let start : sheet_mark ++ bytes_of 2 1 ≡ take 5 s =
      ap₂ (λ (m : List ℕ) (v : ℕ). m ++ bytes_of 2 v) (sym l.mark) (sym l.version) ∙ take_bytes_of 2 s 3 (omega (arith, l.exact)) b in
      rw (
        header_read,
        start,
        take_bytes_of 1 s 5 (omega (arith, l.exact)) b,
        take_bytes_of 4 s 6 (omega (arith, l.exact)) b,
        take_bytes_of 4 s 10 (omega (arith, l.exact)) b,
        take_bytes_of 4 s 14 (omega (arith, l.exact)) b,
        take_bytes_of 1 s 18 (omega (arith, l.exact)) b,
        take_bytes_of 1 s 19 (omega (arith, l.exact)) b,
        stored_entries_read,
        statement_read,
        take_bytes_of_each 4 s 20 (entry_count h) (omega (arith, l.exact)) b,
        take_bytes_of_each 4 s (20 + 4 * entry_count h) h.rows (omega (arith, l.exact)) b,
      )
      (take_all (20 + 4 * entry_count h + 4 * h.rows) s (omega (arith, l.exact)))
