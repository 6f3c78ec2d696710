-- The values of a plan's sheet: those of the definition are such values, and all such values have one sheet.
-- Assumes nothing.
use Prim.Native.Nat.{ℕ, ◌%◌, ◌^◌, ◌<◌}
use mathlib.Core.Path.{◌≡◌, refl, sym, ap, ◌∙◌}
use native.Mathlib.Omega.{arith}
use lib.ListN.{get_or, length}
use Rattle.types.specs.declared.Header.{Header}
use Rattle.lists.proofs.Places.{get_d_pad8}
use Rattle.lists.proofs.Rows.{get_d_table}
use Rattle.numbers.proofs.Product.{product_agree}
use Rattle.sigma.specs.Instance.{Instance, entry, statement_at, table_of}
use Rattle.formats.specs.Meaning.{SameInstance}
use Rattle.linear_forms.specs.Linear.{coefficient, linear_entry, linear_instance}
use Rattle.linear_forms.specs.LinearPlan.{LinearPlan}
use Rattle.linear_forms.specs.LinearSheets.{OfPlan}

module _ (p : LinearPlan) where
  -- an entry of the sheet
  pub linear_entry_law : (i j : ℕ) → i < p.rows → j < p.columns → entry (table_of (linear_instance p)) i j ≡ linear_entry p i j
  unfolding linear_instance entry
  linear_entry_law i j a b = get_d_table p.rows p.columns (linear_entry p) i j a b

  -- the values of the definition are those of the plan's sheet
  pub linear_of_plan : OfPlan p (linear_instance p)
  unfolding linear_instance linear_entry coefficient statement_at
  linear_of_plan = record {
    header = refl;
    entries = λ i j a b.
        linear_entry_law i j a b
        ∙ ap (λ (k : ℕ). k % p.modulus)
        (product_agree (length p.generators) _ _ (λ g c.
        ap (λ (k : ℕ). get_or p.generators g 0 ^ get_or p.coefficients k 0) (omega arith)));
    statement = λ i a. get_d_pad8 0 p.statement i;
  }

module _ {p : LinearPlan} where
  -- values of one plan's sheet are the same where a sheet stores them
  pub plan_same : {inst inst' : Instance} → OfPlan p inst → OfPlan p inst' → SameInstance inst inst'
  unfolding statement_at
  plan_same {inst} {inst'} a b =
      let rows : inst.header.rows ≡ p.rows = ap (λ (h : Header). h.rows) a.header in
      let columns : inst.header.columns ≡ p.columns = ap (λ (h : Header). h.columns) a.header in
      record {
        header = a.header ∙ sym b.header;
        entries = λ e i j c d.
            a.entries i j (rw rows at c) (rw columns at d) ∙ sym (b.entries i j (rw rows at c) (rw columns at d));
        statement = λ i c. a.statement i (rw rows at c) ∙ sym (b.statement i (rw rows at c));
      }

  -- values that a sheet stores alike are those of the plan's sheet together
  pub plan_over : {inst inst' : Instance} → SameInstance inst inst' → OfPlan p inst → OfPlan p inst'
  unfolding statement_at
  plan_over {inst} {inst'} s a =
      let kind : inst.header.kind ≡ 1 = ap (λ (h : Header). h.kind) a.header in
      let rows : inst.header.rows ≡ p.rows = ap (λ (h : Header). h.rows) a.header in
      let columns : inst.header.columns ≡ p.columns = ap (λ (h : Header). h.columns) a.header in
      record {
        header = sym s.header ∙ a.header;
        entries = λ i j c d. sym (s.entries kind i j (rw rows c) (rw columns d)) ∙ a.entries i j c d;
        statement = λ i c. sym (s.statement i (rw rows c)) ∙ a.statement i c;
      }
