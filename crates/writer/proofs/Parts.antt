-- The parts of a sheet: rows of entries one behind the other, and what stands behind what.
-- Assumes nothing.
use Prim.Native.Nat.{ℕ, ◌+◌, ◌*◌}
use mathlib.Core.Path.{◌≡◌, refl}
use mathlib.Core.Logic.{◌≢◌}
use mathlib.Core.List.{List, [], ◌∷◌, ◌++◌, append-nil, flatten}
use native.Mathlib.Numerals.{add-one}
use native.Mathlib.Omega.{arith}
use lib.ListN.{get_or}
use lib.Seq.{sets}
use Rattle.types.specs.declared.Header.{Header}
use Rattle.encoding.specs.Bytes.{bytes_of_each}
use Rattle.encoding.specs.Placed.{Placed}
use Rattle.encoding.proofs.Bytes.{bytes_of_each_append}
use Rattle.encoding.proofs.Placed.{placed_words}
use Rattle.lists.specs.Places.{tabulate, places}
use Rattle.lists.proofs.Places.{length_places, tabulate_suc}
use Rattle.lists.proofs.Rows.{flatten_append}
use Rattle.sigma.specs.Instance.{Instance, entry}
use Rattle.sigma.proofs.ByKind.{by_kind, exponent_kind, root_kind}
use Rattle.formats.specs.Encode.{header_bytes, sheet_of, stored_entries}
use Rattle.formats.specs.Sheet.{entry_count}
use Rattle.formats.proofs.Entries.{length_stored_entries, stored_entries_exponent, stored_entries_root}
use Rattle.formats.proofs.Writing.{length_header_bytes}
use Rattle.writer.specs.Parts.{entries_bytes, rows_bytes}

-- ---- rows

-- one row more, at the end
pub rows_bytes_next : (columns : ℕ) (entries : List (List ℕ)) (i : ℕ)
    → rows_bytes columns entries (i + 1) ≡ rows_bytes columns entries i ++ bytes_of_each 4 (places columns (get_or entries i []))
unfolding rows_bytes flatten
rows_bytes_next columns entries i =
    let row : ℕ → List ℕ = λ r. places columns (get_or entries r []) in
    rw (add-one i, tabulate_suc i row, flatten_append (tabulate i row) (row i ∷ []), append-nil (row i))
    (bytes_of_each_append 4 (flatten (tabulate i row)) (row i))

-- ---- entries

module _ (h : Header) (entries : List (List ℕ)) where
  -- in kind 1 the entries are all rows
  pub entries_bytes_exponent : h.kind ≡ 1 → entries_bytes h entries ≡ rows_bytes h.columns entries h.rows
  unfolding entries_bytes
  entries_bytes_exponent e = rw (exponent_kind h e)

  -- in kind 2 there are none
  pub entries_bytes_root : h.kind ≢ 1 → entries_bytes h entries ≡ []
  unfolding entries_bytes
  entries_bytes_root n = rw (root_kind h n)

-- they are the bytes of the entries that a sheet stores
entries_bytes_stored : (i : Instance) → entries_bytes i.header i.entries ≡ bytes_of_each 4 (stored_entries i)
unfolding rows_bytes places entry bytes_of_each
entries_bytes_stored i =
    by_kind i.header (λ e. rw (entries_bytes_exponent i.header i.entries e, stored_entries_exponent i e))
    (λ n. rw (entries_bytes_root i.header i.entries n, stored_entries_root i n))

-- ---- the sheet

-- the fixed fields, the entries and the statement, stored one behind the other, are the sheet stored
pub sheet_stored : (i : Instance) (l : List ℕ)
    → sets (sets (sets l 0 (header_bytes i.header)) 20 (entries_bytes i.header i.entries)) (20 + 4 * entry_count i.header)
    (bytes_of_each 4 (places i.header.rows i.statement))
    ≡ sets l 0 (sheet_of i)
unfolding sheet_of
sheet_stored i l =
    let h = i.header in
    let fixed : Placed l 0 (header_bytes h) (sets l 0 (header_bytes h)) 20 =
    record { stored = refl; behind = omega (arith, length_header_bytes h) } in
    let entries = placed_words fixed (entry_count h) (stored_entries i) refl (length_stored_entries i) in
    rw (entries_bytes_stored i) (placed_words entries h.rows (places h.rows i.statement) refl (length_places _ _)).stored
