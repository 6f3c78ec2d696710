-- The two steps of loading: the shape's number comes first, and where there is none that of the group elements; what holds of a
-- sheet that has passed the first step.
-- Assumes nothing.
use Prim.Native.Nat.{ℕ, ◌≤◌, ◌<◌}
use mathlib.Core.Path.{◌≡◌, refl, sym, ap, ◌∙◌}
use mathlib.Core.List.{List}
use native.Mathlib.Omega.{arith}
use lib.ListN.{length}
use Rattle.types.specs.declared.Header.{Header}
use Rattle.lists.specs.Places.{zeros8}
use Rattle.rules.specs.Rule.{lowest}
use Rattle.rules.proofs.Lowest.{lowest_earlier, lowest_later_zero, lowest_append_zero}
use Rattle.sigma.specs.Admission.{header_rules, element_rules}
use Rattle.sigma.specs.Instance.{instance_with}
use Rattle.formats.specs.Sheet.{header_of, sheet_length, entries_of, statement_of, instance_of}
use Rattle.formats.specs.Load.{shape_rules, load_rules, load_refusal, no_header, load}
use Rattle.formats.proofs.Loads.{sheet_long, load_refused}
use Rattle.instance.specs.Shaped.{Shaped}
use Rattle.instance.proofs.FixedFields.{header_passes}
use Rattle.instance.proofs.ShapeNumber.{shape_passes}

module _ (s : List ℕ) where
  -- a number of the shape is the sheet's
  pub shape_first : 0 < lowest (shape_rules s) → lowest (shape_rules s) ≡ load_refusal s
  unfolding load_refusal load_rules
  shape_first refused = sym (lowest_earlier (shape_rules s) (element_rules (instance_of s)) refused)

  -- a sheet that loads has the shape of one
  pub load_shape : load_refusal s ≡ 0 → lowest (shape_rules s) ≡ 0
  unfolding load_refusal load_rules shape_rules header_rules element_rules
  load_shape e = ((lowest_append_zero (shape_rules s) (element_rules (instance_of s)) tt tt).0 e).0

  -- a sheet that has the shape of one holds the fixed fields
  pub shape_long : lowest (shape_rules s) ≡ 0 → 20 ≤ length s
  shape_long passed = omega (arith, (shape_passes s passed).1, sheet_long (header_of s))

  module _ (h : Header) (same : h ≡ header_of s) (passed : lowest (shape_rules s) ≡ 0) where
    -- its fixed fields have a positive modulus and at most eight rows and columns
    pub shape_header : (0 < h.modulus) × ((h.rows ≤ 8) × (h.columns ≤ 8))
    shape_header = header_passes h (ap (λ (k : Header). lowest (header_rules k)) same ∙ (shape_passes s passed).0)

    -- and give its length
    pub shape_shaped : Shaped s h
    shape_shaped =
        let (_, (rows, columns)) = shape_header in
        record { few_rows = rows; few_columns = columns; exact = (shape_passes s passed).1 ∙ ap sheet_length (sym same) }

  module _ (h : Header) (same : h ≡ header_of s) where
    -- where the shape gives no number, that of the entries and the statement is the sheet's
    pub elements_next : {entries : List (List ℕ)} {statement : List ℕ} → entries ≡ entries_of s h → statement ≡ statement_of s h
        → lowest (shape_rules s) ≡ 0
        → lowest (element_rules (instance_with h entries statement)) ≡ load_refusal s
    unfolding load_refusal load_rules shape_rules header_rules instance_of
    elements_next read_entries read_statement passed =
        rw (read_entries, read_statement, same) (sym (lowest_later_zero (shape_rules s) (element_rules (instance_of s)) tt passed))

    -- and what is read makes up the sheet's instance
    pub values_loaded : {entries : List (List ℕ)} {statement : List ℕ} → entries ≡ entries_of s h → statement ≡ statement_of s h
        → instance_with h entries statement ≡ instance_of s
    unfolding instance_of
    values_loaded read_entries read_statement = rw (read_entries, read_statement, same) refl

  -- the answer to a refused sheet
  pub refused_answer : {refusal : ℕ} → refusal ≡ load_refusal s → 0 < refusal
      → record { refusal = refusal; header = no_header; statement = zeros8 } ≡ load s
  refused_answer number refused = rw number (sym (load_refused s (rw number at refused)))
