-- 01's formula over one table: of joined responses, for the product of two statements, it gives the joined values.
-- Assumes nothing.
use Prim.Native.Nat.{ℕ, ◌<◌}
use mathlib.Core.Path.{◌≡◌, sym, ap, ap₂, ◌∙◌}
use mathlib.Core.List.{List}
use native.Mathlib.Nat.{zero-mod}
use native.Mathlib.Omega.{arith}
use lib.IntN.{ℤ}
use lib.ListN.{get_or}
use lib.Seq.{ext_get_or}
use Rattle.lists.specs.Places.{places}
use Rattle.lists.proofs.Each.{each_length, each_places}
use Rattle.lists.proofs.Places.{get_d_places, tabulate_agree}
use Rattle.groups.specs.Transcript.{witness_formula}
use Rattle.groups.specs.Vector.{same_slots}
use Rattle.groups.proofs.Products.{formula_of_products}
use Rattle.sigma.specs.Domain.{Domain}
use Rattle.sigma.specs.Element.{combine}
use Rattle.sigma.specs.Extractor.{formula, slot_formula}
use Rattle.sigma.specs.Instance.{Instance, statement_at, table_of}
use Rattle.sigma.specs.Joined.{join_slots, multiply_rows, with_statement}
use Rattle.sigma.specs.Meaning.{Coordinates, Elements}
use Rattle.sigma.specs.Reads.{Agree}
use Rattle.sigma.specs.Valid.{Valid}
use Rattle.sigma.proofs.ByKind.{by_kind, combine_exponent, combine_root}
use Rattle.sigma.proofs.Formula.{base_slot_exponent, base_slot_root, formula_agree}
use Rattle.sigma.proofs.FormulaValue.{base_of, base_of_at, formula_value}
use Rattle.sigma.proofs.Homomorphism.{coordinates_of, domain_group}
use Rattle.sigma.proofs.Joined.{join_at, joins_agree, length_join, multiply_at, multiply_in, with_statement_valid}
use Rattle.sigma.proofs.Maurer.{product_slot}
use Rattle.sigma.proofs.Valid.{valid_kind}

-- the formula reads the statement place by place
pub formula_restated : (inst : Instance) (z z' : List ℕ) (a b : ℤ) (r r' : List ℕ) → ((j : ℕ) → get_or z j 0 ≡ get_or z' j 0)
    → formula (with_statement inst z) a b r r' ≡ formula (with_statement inst z') a b r r'
unfolding formula statement_at
formula_restated inst z z' a b r r' same = tabulate_agree inst.header.columns _ _ (λ j h.
    ap (λ (u : ℕ). slot_formula inst.header u a b (get_or r j 0) (get_or r' j 0)) (same j))

module _ {inst : Instance} (v : Valid inst) (z z' : List ℕ) (elements : Elements inst z) (elements' : Elements inst z') where
  -- the three instances, over one table
  abbrev at_z : Valid (with_statement inst z)
  at_z = record { table = v.table; statement = (with_statement_valid v z elements).statement }

  abbrev at_z' : Valid (with_statement inst z')
  at_z' = record { table = v.table; statement = (with_statement_valid v z' elements').statement }

  abbrev at_product : Valid (with_statement inst (multiply_rows inst.header z z'))
  at_product = record {
    table = v.table;
    statement = (with_statement_valid v (multiply_rows inst.header z z') (multiply_in v z z' elements elements')).statement;
  }

  -- two choices of slots joined are their product in the domain
  product_joined : (x y : Domain (table_of inst)) → ((domain_group v.table).product x y).0 ≡ join_slots inst.header x.0 y.0
  product_joined x y =
      let w : Domain (table_of inst) = (domain_group v.table).product x y in
      let long = each_length _ _ w.0 w.1 in
      ext_get_or 0 _ _ (long ∙ sym (length_join inst.header x.0 y.0)) (λ j l.
      let b : j < inst.header.columns = omega arith in
      product_slot v.table x y j b ∙ sym (join_at inst.header x.0 y.0 j b))

  -- u of the product is the product of both
  base_product : base_of at_product ≡ (domain_group v.table).product (base_of at_z) (base_of at_z')
  unfolding statement_at
  base_product = same_slots (coordinates_of v.table) inst.header.columns _ _ (λ j b.
      let h = inst.header in
      base_of_at at_product j b
      ∙ by_kind h
      (λ e. base_slot_exponent h e _
      ∙ sym (ap₂ (λ (x y : ℕ). combine h x y) (base_slot_exponent h e (get_or z j 0)) (base_slot_exponent h e (get_or z' j 0))
      ∙ combine_exponent h e 0 0 ∙ zero-mod h.order))
      (λ n. base_slot_root h n _ ∙ multiply_at h z z' j (omega (arith, v.table.square (valid_kind v.table n)))
      ∙ sym (ap₂ (λ (x y : ℕ). combine h x y) (base_slot_root h n (get_or z j 0)) (base_slot_root h n (get_or z' j 0)) ∙ combine_root h n _ _))
      ∙ sym (product_slot v.table (base_of at_z) (base_of at_z') j b
      ∙ ap₂ (λ (x y : ℕ). combine h x y) (base_of_at at_z j b) (base_of_at at_z' j b)))

  -- the formula of joined responses, each a choice of n slots
  choices_joined : (a b : ℤ) (r r' s s' : Domain (table_of inst))
      → formula (with_statement inst (multiply_rows inst.header z z')) a b (join_slots inst.header r.0 s.0)
      (join_slots inst.header r'.0 s'.0)
      ≡ join_slots inst.header (formula (with_statement inst z) a b r.0 r'.0) (formula (with_statement inst z') a b s.0 s'.0)
  choices_joined a b r r' s s' =
      let G = domain_group v.table in
      let whole = with_statement inst (multiply_rows inst.header z z') in
      ap₂ (λ (x y : List ℕ). formula whole a b x y) (sym (product_joined r s)) (sym (product_joined r' s'))
      ∙ sym (formula_value at_product a b (G.product r s) (G.product r' s'))
      ∙ ap (λ (u : Domain (table_of inst)). (witness_formula G u a b (G.product r s) (G.product r' s')).0) base_product
      ∙ ap (λ (w : Domain (table_of inst)). w.0) (formula_of_products G (base_of at_z) (base_of at_z') a b r r' s s')
      ∙ product_joined (witness_formula G (base_of at_z) a b r r') (witness_formula G (base_of at_z') a b s s')
      ∙ ap₂ (λ (x y : List ℕ). join_slots inst.header x y) (formula_value at_z a b r r') (formula_value at_z' a b s s')

  -- the same of lists with slots in n places
  pub formula_joined : (a b : ℤ) (r r' s s' : List ℕ)
      → Coordinates inst r → Coordinates inst r' → Coordinates inst s → Coordinates inst s'
      → formula (with_statement inst (multiply_rows inst.header z z')) a b (join_slots inst.header r s) (join_slots inst.header r' s')
      ≡ join_slots inst.header (formula (with_statement inst z) a b r r') (formula (with_statement inst z') a b s s')
  formula_joined a b r r' s s' each each' every every' =
      let h = inst.header in
      let n = h.columns in
      let read : (x : List ℕ) → Agree n x (places n x) = λ x j d. sym (get_d_places n x j d) in
      let slots : (x : List ℕ) → Coordinates inst x → Domain (table_of inst) = λ x in_domain. (places n x, each_places _ n x in_domain) in
      ap₂ (λ (x y : List ℕ). formula (with_statement inst (multiply_rows h z z')) a b x y)
      (joins_agree h r (places n r) s (places n s) (read r) (read s))
      (joins_agree h r' (places n r') s' (places n s') (read r') (read s'))
      ∙ choices_joined a b (slots r each) (slots r' each') (slots s every) (slots s' every')
      ∙ ap₂ (λ (x y : List ℕ). join_slots h x y)
      (sym (formula_agree (with_statement inst z) a b r r' (places n r) (places n r') (read r) (read r')))
      (sym (formula_agree (with_statement inst z') a b s s' (places n s) (places n s') (read s) (read s')))
