-- The bytes of a sheet, read: the fixed fields, entries and statement that were written, with 0 in the places beyond.
-- Assumes nothing.
use Prim.Native.Nat.{ℕ, ◌+◌, ◌*◌, ◌^◌, ◌<◌}
use mathlib.Core.Path.{◌≡◌, refl, sym, ap, ◌∙◌}
use mathlib.Core.Logic.{inl, inr, ⊎_elim}
use mathlib.Core.Bool.{cond}
use mathlib.Core.List.{List, [], ◌++◌, append_assoc, append-nil}
use native.Mathlib.Nat.{mul_comm}
use native.Mathlib.Omega.{arith}
use lib.Arith.{digits_lt}
use lib.ListN.{length, get_or, take, length-append}
use lib.Seq.{take_at}
use Rattle.types.specs.declared.Header.{Header}
use Rattle.encoding.specs.Bytes.{bytes_of, bytes_of_each, number_at, words_at}
use Rattle.encoding.proofs.Bytes.{length_bytes_of, length_bytes_of_each, number_behind, numbers_behind}
use Rattle.encoding.proofs.Bounds.{below_places}
use Rattle.lists.specs.Places.{pad8, places}
use Rattle.lists.proofs.Places.{length_places, get_d_items_at}
use Rattle.lists.proofs.Rows.{table_agree}
use Rattle.rules.proofs.Says.{says_decides}
use Rattle.sigma.specs.Instance.{Instance, table_of, is_exponent, entry, statement_at}
use Rattle.sigma.specs.Valid.{Valid}
use Rattle.sigma.proofs.ByKind.{root_kind}
use Rattle.sigma.proofs.Tests.{says_exponent}
use Rattle.formats.specs.Encode.{header_bytes, stored_entries, sheet_of}
use Rattle.formats.specs.Meaning.{read_instance}
use Rattle.formats.specs.Sheet.{entries_of, entry_count, header_of, instance_of, sheet_mark, statement_of, version_of, zeros64}
use Rattle.formats.proofs.Entries.{
  entry_count_exponent,
  length_stored_entries,
  stored_entries_at,
  below_stored_entries,
}
use Rattle.formats.proofs.Loads.{length_sheet_mark}
use Rattle.formats.proofs.Writing.{length_header_bytes}

-- the lengths of the parts of a sheet
ruleset lengths = (length-append, length_bytes_of, length_sheet_mark)

module _ (i : Instance) where
  -- a sheet begins with its mark
  pub sheet_mark_law : take 3 (sheet_of i) ≡ sheet_mark
  unfolding sheet_of header_bytes
  sheet_mark_law = simp append_assoc (take_at sheet_mark _ 3 length_sheet_mark)

  -- its version is 1
  pub sheet_version : version_of (sheet_of i) ≡ 1
  unfolding sheet_of header_bytes version_of
  sheet_version =
      let h = i.header in
      number_behind 2 1 sheet_mark
      (bytes_of 1 h.kind ++ bytes_of 4 h.modulus ++ bytes_of 4 h.order ++ bytes_of 4 h.challenges ++ bytes_of 1 h.rows ++
      bytes_of 1 h.columns ++ bytes_of_each 4 (stored_entries i) ++ bytes_of_each 4 (places h.rows i.statement))
      (sheet_of i) 3 (simp append_assoc) length_sheet_mark (omega arith)

  -- its fixed fields are the instance's
  pub sheet_header : Valid i → i.header.modulus < 2 ^ 32 → i.header.order < 2 ^ 32 → header_of (sheet_of i) ≡ i.header
  unfolding sheet_of header_bytes header_of
  sheet_header v small short =
      let h = i.header in
      let s = sheet_of i in
      let p = sheet_mark ++ bytes_of 2 1 in
      let e = bytes_of_each 4 (stored_entries i) ++ bytes_of_each 4 (places h.rows i.statement) in
      let q = bytes_of 1 h.rows ++ (bytes_of 1 h.columns ++ e) in
      let kind = number_behind 1 h.kind p (bytes_of 4 h.modulus ++ bytes_of 4 h.order ++ bytes_of 4 h.challenges ++ q) s 5
      (simp append_assoc) (simp lengths) (⊎_elim (λ e. omega arith) (λ e. omega arith) v.table.kind) in
      let p' = p ++ bytes_of 1 h.kind in
      let modulus = number_behind 4 h.modulus p' (bytes_of 4 h.order ++ bytes_of 4 h.challenges ++ q) s 6
      (simp append_assoc) (simp lengths) small in
      let p'' = p' ++ bytes_of 4 h.modulus in
      let order = number_behind 4 h.order p'' (bytes_of 4 h.challenges ++ q) s 10
      (simp append_assoc) (simp lengths) short in
      let p''' = p'' ++ bytes_of 4 h.order in
      let challenges = number_behind 4 h.challenges p''' q s 14
      (simp append_assoc) (simp lengths) (omega (arith, v.table.few_challenges)) in
      let r = p''' ++ bytes_of 4 h.challenges in
      let rows = number_behind 1 h.rows r (bytes_of 1 h.columns ++ e) s 18
      (simp append_assoc) (simp lengths) (omega (arith, v.table.few_rows)) in
      let columns = number_behind 1 h.columns (r ++ bytes_of 1 h.rows) e s 19
      (simp append_assoc) (simp lengths) (omega (arith, v.table.few_columns)) in
      λ j. record {
        kind = kind j;
        modulus = modulus j;
        order = order j;
        challenges = challenges j;
        rows = rows j;
        columns = columns j;
      }

  module _ (v : Valid i) (small : i.header.modulus < 2 ^ 32) where
    -- the entries, read one after the other
    stored_back : words_at (sheet_of i) 20 (entry_count i.header) ≡ stored_entries i
    unfolding sheet_of
    stored_back =
        numbers_behind 4 (stored_entries i) (header_bytes i.header) (bytes_of_each 4 (places i.header.rows i.statement))
        (sheet_of i) 20 _ refl (length_header_bytes i.header) (length_stored_entries i) (below_stored_entries i v small)

    -- an entry, read
    entry_back : i.header.kind ≡ 1 → (r c : ℕ) → r < i.header.rows → c < i.header.columns
        → number_at 4 (sheet_of i) (20 + 4 * (i.header.columns * r + c)) ≡ entry (table_of i) r c
    entry_back e r c a b =
        let h = i.header in
        let f = number_at 4 (sheet_of i) in
        let inside : h.columns * r + c < entry_count h =
        omega (arith, entry_count_exponent h e, digits_lt a b, mul_comm h.columns r) in
        sym (get_d_items_at f 20 4 (entry_count h) (h.columns * r + c) 0 inside)
        ∙ ap (λ (l : List ℕ). get_or l (h.columns * r + c) 0) stored_back ∙ stored_entries_at i e r c a b

    -- the entries, read as rows
    pub sheet_entries : entries_of (sheet_of i) i.header ≡ (read_instance i).entries
    unfolding entries_of read_instance
    sheet_entries = elim (says_decides (says_exponent i.header)) [
      | inl e ↦
          let h = i.header in
          ap (λ (l : List (List ℕ)). cond (is_exponent h) l zeros64)
          (table_agree h.rows h.columns _ (entry (table_of i)) (entry_back e))
      | inr n ↦ rw (root_kind i.header n)
    ]

    -- the statement, read
    pub sheet_statement : statement_of (sheet_of i) i.header ≡ (read_instance i).statement
    unfolding statement_of read_instance sheet_of statement_at
    sheet_statement =
        let h = i.header in
        let front = header_bytes h ++ bytes_of_each 4 (stored_entries i) in
        let size : length front ≡ 20 + 4 * entry_count h = simp (length-append, length_header_bytes, length_bytes_of_each, length_stored_entries) in
        let below =
        below_places (256 ^ 4) h.rows i.statement (omega arith) (λ r b. omega (arith, (v.statement r b).below)) in
        ap (λ (l : List ℕ). pad8 0 l)
        (numbers_behind 4 (places h.rows i.statement) front [] (sheet_of i) (20 + 4 * entry_count h) h.rows
        (sym (append-nil (sheet_of i))) size (length_places h.rows i.statement) below)

    -- a sheet is read as what was read of the values that it was written from
    pub instance_of_sheet_of : i.header.order < 2 ^ 32 → instance_of (sheet_of i) ≡ read_instance i
    unfolding instance_of read_instance
    instance_of_sheet_of short =
        let same = sheet_header v small short in
        λ j. record {
          header = same j;
          entries = (ap (λ (h : Header). entries_of (sheet_of i) h) same ∙ sheet_entries) j;
          statement = (ap (λ (h : Header). statement_of (sheet_of i) h) same ∙ sheet_statement) j;
        }
