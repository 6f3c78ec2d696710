-- The entries that a sheet stores, row by row: how many they are, where each stands, and that they fit 32 bits.
-- Assumes nothing.
use Prim.Native.Nat.{ℕ, ◌+◌, ◌*◌, ◌^◌, ◌<◌, ◌≤◌}
use mathlib.Core.Path.{◌≡◌, ap, ◌∙◌}
use mathlib.Core.Logic.{◌≢◌, inl, inr}
use mathlib.Core.List.{List, [], flatten}
use native.Mathlib.Decide.{dec_lt}
use native.Mathlib.Nat.{mul_comm}
use native.Mathlib.Omega.{arith}
use lib.ListN.{length, get_or, get_or-eq_default}
use Rattle.types.specs.declared.Header.{Header}
use Rattle.encoding.specs.Bytes.{AllBelow}
use Rattle.encoding.proofs.Bounds.{below_tabulate, below_flatten}
use Rattle.lists.specs.Places.{tabulate}
use Rattle.lists.proofs.Places.{length_tabulate, get_d_tabulate}
use Rattle.lists.proofs.Rows.{length_flatten, get_d_flatten}
use Rattle.rules.proofs.Says.{says_decides}
use Rattle.sigma.specs.Instance.{Instance, table_of, entry}
use Rattle.sigma.specs.Valid.{Valid}
use Rattle.sigma.proofs.ByKind.{exponent_kind, root_kind}
use Rattle.sigma.proofs.Tests.{says_exponent}
use Rattle.formats.specs.Encode.{stored_entries}
use Rattle.formats.specs.Sheet.{entry_count}

-- ---- by kind

-- kind 1 has s × n entries
pub entry_count_exponent : (h : Header) → h.kind ≡ 1 → entry_count h ≡ h.rows * h.columns
unfolding entry_count
entry_count_exponent h e = rw (exponent_kind h e)

-- the other kind has none
pub entry_count_root : (h : Header) → h.kind ≢ 1 → entry_count h ≡ 0
unfolding entry_count
entry_count_root h n = rw (root_kind h n)

-- a row of entries
abbrev pub entry_row : Instance → ℕ → List ℕ
entry_row i r = tabulate i.header.columns (entry (table_of i) r)

module _ (i : Instance) where
  -- kind 1 stores its rows one behind the other
  pub stored_entries_exponent : i.header.kind ≡ 1 → stored_entries i ≡ flatten (tabulate i.header.rows (entry_row i))
  unfolding stored_entries
  stored_entries_exponent e = rw (exponent_kind i.header e)

  -- the other kind stores nothing
  pub stored_entries_root : i.header.kind ≢ 1 → stored_entries i ≡ []
  unfolding stored_entries
  stored_entries_root n = rw (root_kind i.header n)

  -- ---- the rows

  -- row r of the rows
  row_at : (r : ℕ) → r < i.header.rows → get_or (tabulate i.header.rows (entry_row i)) r [] ≡ entry_row i r
  row_at r b = get_d_tabulate i.header.rows (entry_row i) r [] b

  -- each row has n entries
  row_length : (r : ℕ) → r < length (tabulate i.header.rows (entry_row i))
      → length (get_or (tabulate i.header.rows (entry_row i)) r []) ≡ i.header.columns
  row_length r b =
      ap length (row_at r (omega (arith, length_tabulate i.header.rows (entry_row i))))
      ∙ length_tabulate i.header.columns (entry (table_of i) r)

  -- as many entries are stored as the header says
  pub length_stored_entries : length (stored_entries i) ≡ entry_count i.header
  length_stored_entries = elim (says_decides (says_exponent i.header)) [
    | inl e ↦
        rw (stored_entries_exponent e, entry_count_exponent i.header e)
        (length_flatten i.header.columns _ row_length
        ∙ ap (λ (n : ℕ). i.header.columns * n) (length_tabulate i.header.rows (entry_row i))
        ∙ mul_comm i.header.columns i.header.rows)
    | inr n ↦ rw (stored_entries_root n, entry_count_root i.header n)
  ]

  -- the entry in row r and column c stands r rows and c entries behind the start
  pub stored_entries_at : i.header.kind ≡ 1 → (r c : ℕ) → r < i.header.rows → c < i.header.columns
      → get_or (stored_entries i) (i.header.columns * r + c) 0 ≡ entry (table_of i) r c
  stored_entries_at e r c a b =
      rw (stored_entries_exponent e)
      (get_d_flatten i.header.columns _ row_length r c 0 (omega (arith, length_tabulate i.header.rows (entry_row i))) b
      ∙ ap (λ (row : List ℕ). get_or row c 0) (row_at r a) ∙ get_d_tabulate i.header.columns (entry (table_of i) r) c 0 b)

  -- where the modulus fits 32 bits, so does every entry that is stored
  pub below_stored_entries : Valid i → i.header.modulus < 2 ^ 32 → AllBelow (2 ^ 32) (stored_entries i)
  below_stored_entries v small = elim (says_decides (says_exponent i.header)) [
    | inl e ↦ rw (stored_entries_exponent e) (below_flatten (2 ^ 32) _ (λ r. row e r (dec_lt r i.header.rows)))
    | inr n ↦ rw (stored_entries_root n) (λ j. omega arith)
  ]
    where
      row : i.header.kind ≡ 1 → (r : ℕ) → Dec (r < i.header.rows)
          → AllBelow (2 ^ 32) (get_or (tabulate i.header.rows (entry_row i)) r [])
      row e r (yes a) =
          rw (row_at r a)
          (below_tabulate (2 ^ 32) i.header.columns (entry (table_of i) r) (omega arith) (λ c b. omega (arith, (v.table.entries e r c a b).below)))
      row e r (no a) =
          let count = length_tabulate i.header.rows (entry_row i) in
          let beyond : length (tabulate i.header.rows (entry_row i)) ≤ r = omega arith in
          rw (get_or-eq_default (tabulate i.header.rows (entry_row i)) [] beyond) (λ j. omega arith)
