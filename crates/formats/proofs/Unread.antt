-- A writing call's outcome depends only on the places that 01 reads: values that are the same there give the same bytes.
-- Assumes nothing.
use Prim.Native.Nat.{ℕ, ◌<◌}
use mathlib.Core.Path.{◌≡◌, refl, sym, ap, subst, ◌∙◌}
use mathlib.Core.Logic.{inl, inr}
use mathlib.Core.Bool.{Bool, not, cond, ◌&&◌}
use mathlib.Core.List.{List, [], flatten}
use Rattle.types.specs.declared.Header.{Header}
use Rattle.types.specs.declared.Round.{Round}
use Rattle.lists.specs.Places.{places, tabulate}
use Rattle.lists.proofs.Places.{tabulate_agree, get_d_pad8, get_d_places, places_agree}
use Rattle.lists.proofs.Rows.{get_d_table}
use Rattle.numbers.specs.Search.{any}
use Rattle.numbers.proofs.Search.{any_agree}
use Rattle.rules.proofs.Says.{says_decides}
use Rattle.sigma.specs.Admission.{bad_entries, bad_statement, element_rules}
use Rattle.sigma.specs.Element.{Element, is_element, some_non_element}
use Rattle.sigma.specs.Instance.{Instance, table_of, is_exponent, entry, statement_at}
use Rattle.sigma.specs.Reads.{Agree, SameRound}
use Rattle.sigma.specs.Valid.{Valid}
use Rattle.sigma.proofs.ByKind.{exponent_kind, root_kind}
use Rattle.sigma.proofs.Tests.{says_exponent}
use Rattle.sigma.proofs.Unread.{same_commitment_law, same_response}
use Rattle.formats.specs.Append.{append, appended, appending}
use Rattle.formats.specs.Encode.{encode, encoding, sheet_of, stored_entries}
use Rattle.formats.specs.Meaning.{SameInstance, read_instance}
use Rattle.formats.specs.RoundFile.{record_bytes}
use Rattle.formats.specs.Sheet.{header_of}

-- some value among the first n is no group element: only n values are read
pub some_non_element_agree : (h : Header) (n : ℕ) (vs ws : List ℕ) → Agree n vs ws → some_non_element h n vs ≡ some_non_element h n ws
unfolding some_non_element
some_non_element_agree h n vs ws a = any_agree n _ _ (λ j b. ap (λ (v : ℕ). not (is_element h v)) (a j b))

module _ (h : Header) (es es' : List (List ℕ)) (z z' : List ℕ) where
  -- the first values
  abbrev first : Instance
  first = record { header = h; entries = es; statement = z }

  -- the second values, with the same header
  abbrev second : Instance
  second = record { header = h; entries = es'; statement = z' }

  module _ (s : SameInstance first second) where
    -- 10 is the same for both
    bad_entries_same : bad_entries first ≡ bad_entries second
    unfolding bad_entries
    bad_entries_same = elim (says_decides (says_exponent h)) [
      | inl e ↦
          let rows =
          any_agree h.rows (λ r. any h.columns (λ c. not (is_element h (entry (table_of first) r c))))
          (λ r. any h.columns (λ c. not (is_element h (entry (table_of second) r c))))
          (λ r a. any_agree h.columns _ _ (λ c b. ap (λ (v : ℕ). not (is_element h v)) (s.entries e r c a b))) in
          ap (λ (found : Bool). is_exponent h && found) rows
      | inr n ↦ rw (root_kind h n)
    ]

    -- 11 is the same for both
    bad_statement_same : bad_statement first ≡ bad_statement second
    unfolding bad_statement
    bad_statement_same = some_non_element_agree h h.rows z z' s.statement

    -- both store the same entries
    stored_entries_same : stored_entries first ≡ stored_entries second
    unfolding stored_entries
    stored_entries_same = elim (says_decides (says_exponent h)) [
      | inl e ↦
          let rows =
          tabulate_agree h.rows (λ r. tabulate h.columns (entry (table_of first) r)) (λ r. tabulate h.columns (entry (table_of second) r))
          (λ r a. tabulate_agree h.columns (entry (table_of first) r) (entry (table_of second) r) (λ c b. s.entries e r c a b)) in
          ap (λ (es : List (List ℕ)). cond (is_exponent h) (flatten es) []) rows
      | inr n ↦ rw (root_kind h n)
    ]

    -- both are Valid or not
    valid_same_header : Valid first → Valid second
    unfolding statement_at
    valid_same_header v = record {
      table = record {
        kind = v.table.kind;
        modulus = v.table.modulus;
        order = v.table.order;
        some_row = v.table.some_row;
        few_rows = v.table.few_rows;
        some_column = v.table.some_column;
        few_columns = v.table.few_columns;
        square = v.table.square;
        some_challenges = v.table.some_challenges;
        few_challenges = v.table.few_challenges;
        no_divisor = v.table.no_divisor;
        entries = λ e r c a b. subst (λ (x : ℕ). Element h x) (s.entries e r c a b) (v.table.entries e r c a b);
      };
      statement = λ r a. subst (λ (x : ℕ). Element h x) (s.statement r a) (v.statement r a);
    }

    -- both have the same sheet
    sheet_same_header : sheet_of first ≡ sheet_of second
    unfolding sheet_of
    sheet_same_header = rw (stored_entries_same, places_agree h.rows z z' s.statement)

    -- both are written or refused in the same way
    encode_same_header : (buffer : List ℕ) → encode first buffer ≡ encode second buffer
    unfolding encode encoding element_rules
    encode_same_header buffer = rw (sheet_same_header, bad_entries_same, bad_statement_same)

-- the same values, the other way round
pub same_instance_sym : {i i' : Instance} → SameInstance i i' → SameInstance i' i
same_instance_sym {i} {i'} s = record {
  header = sym s.header;
  entries = λ e r c a b. sym (s.entries (rw s.header e) r c (rw s.header a) (rw s.header b));
  statement = λ j b. sym (s.statement j (rw s.header b));
}

-- the same values, where the header is the same by a path
aligned : {i i' : Instance} → SameInstance i i'
    → SameInstance i (record { header = i.header; entries = i'.entries; statement = i'.statement })
unfolding entry
aligned s = record { header = refl; entries = s.entries; statement = s.statement }

-- the second writer reads the header, in kind 1 the entries within rows and columns, and s places of the statement
pub encode_same : {i i' : Instance} → SameInstance i i' → (buffer : List ℕ) → encode i buffer ≡ encode i' buffer
encode_same {i} {i'} s buffer =
    encode_same_header i.header i.entries i'.entries i.statement i'.statement (aligned s) buffer
    ∙ ap (λ (h : Header). encode (record { header = h; entries = i'.entries; statement = i'.statement }) buffer) s.header

-- so does a sheet's layout
pub sheet_of_same : {i i' : Instance} → SameInstance i i' → sheet_of i ≡ sheet_of i'
sheet_of_same {i} {i'} s =
    sheet_same_header i.header i.entries i'.entries i.statement i'.statement (aligned s)
    ∙ ap (λ (h : Header). sheet_of (record { header = h; entries = i'.entries; statement = i'.statement })) s.header

-- whether values are Valid depends only on what is read of them
pub valid_same : {i i' : Instance} → SameInstance i i' → Valid i → Valid i'
valid_same {i} {i'} s v =
    subst (λ (h : Header). Valid (record { header = h; entries = i'.entries; statement = i'.statement })) s.header
    (valid_same_header i.header i.entries i'.entries i.statement i'.statement (aligned s) v)

module _ (i : Instance) where
  -- an entry of what is read
  read_entry : i.header.kind ≡ 1 → (r c : ℕ) → r < i.header.rows → c < i.header.columns
      → entry (table_of (read_instance i)) r c ≡ entry (table_of i) r c
  unfolding read_instance entry
  read_entry e r c a b = rw (exponent_kind i.header e) (get_d_table i.header.rows i.header.columns (entry (table_of i)) r c a b)

  -- what is read of an instance's values is the same
  pub read_same : SameInstance (read_instance i) i
  unfolding read_instance
  read_same = record {
    header = refl;
    entries = read_entry;
    statement = λ r a. get_d_pad8 0 (places i.header.rows i.statement) r ∙ get_d_places i.header.rows i.statement r a;
  }

-- ---- records

-- a record holds s places of t, c, and n places of r
pub record_bytes_same : (width : ℕ) (h : Header) {round round' : Round} → SameRound h round round'
    → record_bytes width h round ≡ record_bytes width h round'
unfolding record_bytes
record_bytes_same width h s = rw (same_commitment_law s, same_response s, s.challenge)

-- the record writer
pub append_same : (sheet buffer : List ℕ) (used : ℕ) {round round' : Round}
    → SameRound (header_of sheet) round round' → append sheet buffer used round ≡ append sheet buffer used round'
unfolding append appending appended
append_same sheet buffer used s = rw (record_bytes_same _ (header_of sheet) s, s.challenge)
