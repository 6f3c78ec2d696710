-- The number of a sheet's entries and statement, 10 and 11, test by test.
-- Assumes nothing.
use Prim.Native.Nat.{ℕ, ◌<◌, ◌≤◌}
use mathlib.Core.Path.{◌≡◌, refl, sym, ◌∙◌}
use mathlib.Core.Logic.{◌≢◌}
use mathlib.Core.Bool.{Bool, true, false}
use mathlib.Core.List.{List, []}
use native.Mathlib.Omega.{arith}
use lib.ListN.{get_or}
use borrow.Author.Tests.{eq-eqb, ne_eqb}
use Rattle.types.specs.declared.Header.{Header}
use Rattle.numbers.specs.Search.{any}
use Rattle.numbers.proofs.Search.{any_of}
use Rattle.rules.specs.Rule.{lowest}
use Rattle.rules.proofs.Lowest.{pass, stop, lowest_clear}
use Rattle.sigma.specs.Admission.{bad_entries, bad_statement, element_rules}
use Rattle.sigma.specs.Element.{some_non_element}
use Rattle.sigma.specs.Instance.{Instance, instance_with, is_exponent, entry}
use Rattle.instance.specs.Rows.{is_bad_row, some_bad_entry}

module _ (h : Header) (entries : List (List ℕ)) where
  -- in kind 2 no entry is read
  pub entries_unread : h.kind ≢ 1 → false ≡ some_bad_entry h entries
  unfolding some_bad_entry is_exponent
  entries_unread other = rw (ne_eqb h.kind 1 other)

  -- the test of a row
  pub row_test : (i : ℕ) {bad : Bool} → bad ≡ some_non_element h h.columns (get_or entries i []) → is_bad_row h entries i ≡ bad
  unfolding is_bad_row
  row_test i told = sym told

  module _ (kind : h.kind ≡ 1) where
    -- a bad row is met
    pub row_found : (i : ℕ) → i < h.rows → is_bad_row h entries i ≡ true → true ≡ some_bad_entry h entries
    unfolding some_bad_entry is_exponent
    row_found i inside bad = rw (eq-eqb h.kind 1 kind) (sym (any_of h.rows (is_bad_row h entries) i inside bad))

    -- behind the last row there was none
    pub rows_good : (i : ℕ) → i ≤ h.rows → h.rows ≤ i → any i (is_bad_row h entries) ≡ false → false ≡ some_bad_entry h entries
    unfolding some_bad_entry is_exponent
    rows_good i within past none =
        let all : i ≡ h.rows = omega arith in
        rw (eq-eqb h.kind 1 kind) (sym (rw all at none))

  module _ (statement : List ℕ) where
    -- the values that are tested
    abbrev tested : Instance
    tested = instance_with h entries statement

    -- the test of the entries is 10's
    bad_entries_law : bad_entries tested ≡ some_bad_entry h entries
    unfolding bad_entries some_bad_entry is_bad_row entry some_non_element
    bad_entries_law = refl

    -- a bad entry is refused with 10
    pub entries_number : some_bad_entry h entries ≡ true → 10 ≡ lowest (element_rules tested)
    unfolding element_rules
    entries_number bad = sym (stop 10 _ (bad_entries_law ∙ bad))

    module _ (good : some_bad_entry h entries ≡ false) where
      -- where there is none, a bad statement value is refused with 11
      pub statement_number : some_non_element h h.rows statement ≡ true → 11 ≡ lowest (element_rules tested)
      unfolding element_rules bad_statement
      statement_number bad = sym (pass 10 _ (bad_entries_law ∙ good) ∙ stop 11 _ bad)

      -- and where there is neither, nothing is refused
      pub elements_right : some_non_element h h.rows statement ≡ false → 0 ≡ lowest (element_rules tested)
      unfolding element_rules bad_statement
      elements_right right = sym (lowest_clear _ (bad_entries_law ∙ good, (right, tt)))
