-- The extractor's formula is Maurer's (01, "A round"): in both kinds [u] = z^ℓ, and (r/r')^ℓ = u^(c − c') for two accepted
-- rounds of one commitment. So its value is a witness, the same for all integers that fit and with the rounds swapped.
-- Assumes nothing.
use Prim.Native.Nat.{ℕ, ◌*◌, ◌%◌, ◌^◌, ◌<◌}
use mathlib.Core.Path.{◌≡◌, sym, ap, ◌∙◌, subst}
use mathlib.Core.Logic.{◌≢◌}
use native.Mathlib.Nat.{mod-eq_of_lt, mul-mod_right, pow-zero, zero-mod}
use native.Mathlib.Omega.{arith}
use lib.IntN.{ℤ, pos, ◌-ℤ◌, *ℤ-zero}
use lib.ListN.{get_or}
use lib.Seq.{ext_get_or}
use Rattle.lists.specs.Places.{tabulate}
use Rattle.lists.proofs.Each.{each_from, each_at, each_length}
use Rattle.lists.proofs.Places.{length_tabulate, get_d_tabulate}
use Rattle.groups.specs.Group.{group_power, group_quotient}
use Rattle.groups.specs.Transcript.{Accepting, Bezout, witness_formula}
use Rattle.groups.specs.Vector.{same_slots}
use Rattle.groups.proofs.Extraction.{quotient_image, formula_carried, any_choice, swapped}
use Rattle.numbers.proofs.Exponent.{power_pos}
use Rattle.numbers.proofs.Integer.{residue_pos}
use Rattle.numbers.proofs.Product.{product_agree, product_one}
use Rattle.sigma.specs.Instance.{Instance, table_of, entry, statement_at}
use Rattle.sigma.specs.Domain.{Domain, Codomain}
use Rattle.sigma.specs.Element.{Coordinate}
use Rattle.sigma.specs.Extractor.{formula}
use Rattle.sigma.specs.Image.{row_image}
use Rattle.sigma.specs.Knowledge.{Witness}
use Rattle.sigma.specs.Valid.{Valid}
use Rattle.sigma.proofs.ByKind.{by_kind, row_image_exponent, row_image_root}
use Rattle.sigma.proofs.CoordinateGroup.{raise, raise_exponent, raise_root, coordinate_exponent, coordinate_root}
use Rattle.sigma.proofs.Formula.{base_slot, base_slot_exponent, base_slot_root, slot_combined, length_formula, formula_at}
use Rattle.sigma.proofs.Homomorphism.{coordinates_of, elements_of, domain_group, codomain_group}
use Rattle.sigma.proofs.Homomorphism.{image_of, image_of_at, homomorphism, row_column}
use Rattle.sigma.proofs.Maurer.{statement_vector, statement_vector_at, product_slot, power_slot, power_row, quotient_slot}
use Rattle.sigma.proofs.Valid.{valid_modulus, valid_order, valid_kind}

-- slot j of u
abbrev pub base_coordinate : Instance → ℕ → ℕ
base_coordinate inst j = base_slot inst.header (statement_at inst j)

module _ {inst : Instance} (v : Valid inst) where
  -- a column's index is a row's in kind 2
  column_row : inst.header.kind ≢ 1 → (j : ℕ) → j < inst.header.columns → j < inst.header.rows
  column_row n j h = omega (arith, v.table.square (valid_kind v.table n))

  -- each slot of u is a coordinate
  base_in : (j : ℕ) → j < inst.header.columns → Coordinate inst.header (base_coordinate inst j)
  base_in j h =
      by_kind inst.header (λ e. rw (base_slot_exponent inst.header e _) (coordinate_exponent inst.header e 0 (valid_order v.table)))
      (λ n. rw (base_slot_root inst.header n _) (coordinate_root inst.header n _ (v.statement j (column_row n j h))))

  -- u as n coordinates
  pub base_of : Domain (table_of inst)
  base_of = (
    tabulate inst.header.columns (base_coordinate inst),
    each_from _ _ _ (length_tabulate _ _) (λ j h. rw (get_d_tabulate inst.header.columns (base_coordinate inst) j 0 h) (base_in j h)),
  )

  -- slot j of u
  pub base_of_at : (j : ℕ) → j < inst.header.columns → get_or base_of.0 j 0 ≡ base_coordinate inst j
  unfolding base_of
  base_of_at j h = get_d_tabulate _ _ j 0 h

  -- a row of [u] is the statement's power ℓ
  base_row : (i : ℕ) → i < inst.header.rows
      → row_image (table_of inst) base_of.0 i ≡ statement_at inst i ^ inst.header.order % inst.header.modulus
  base_row i h =
      by_kind inst.header (λ e.
      let n = inst.header.columns in
      let ones : (j : ℕ) → j < n → entry (table_of inst) i j ^ get_or base_of.0 j 0 ≡ 1 = λ j b.
      rw (base_of_at j b, base_slot_exponent inst.header e _) (pow-zero (entry (table_of inst) i j)) in
      row_image_exponent (table_of inst) e base_of.0 i
      ∙ ap (λ (k : ℕ). k % inst.header.modulus) (product_agree n _ (λ j. 1) ones ∙ product_one n)
      ∙ mod-eq_of_lt (valid_modulus v.table) ∙ sym ((v.statement i h).ordered e))
      (λ n. row_image_root (table_of inst) n base_of.0 i
      ∙ rw (base_of_at i (row_column v.table n i h), base_slot_root inst.header n _))

  -- [u] = z^ℓ
  pub base_image : (homomorphism v.table).map base_of ≡ group_power (codomain_group v.table) (statement_vector v) (pos inst.header.order)
  unfolding homomorphism
  base_image = same_slots (elements_of v.table) inst.header.rows _ _ (λ i h.
      image_of_at v.table base_of i h ∙ base_row i h
      ∙ sym (power_row v.table (statement_vector v) (pos inst.header.order) i h ∙ rw (power_pos, statement_vector_at v i h)))

  -- the formula on values is Maurer's
  pub formula_value : (a b : ℤ) (r r' : Domain (table_of inst))
      → (witness_formula (domain_group v.table) base_of a b r r').0 ≡ formula inst a b r.0 r'.0
  unfolding witness_formula
  formula_value a b r r' =
      let G = domain_group v.table in
      let x : Domain (table_of inst) = witness_formula G base_of a b r r' in
      let long = each_length _ _ x.0 x.1 in
      ext_get_or 0 x.0 (formula inst a b r.0 r'.0) (long ∙ sym (length_formula inst a b r.0 r'.0)) (λ j l.
      let h : j < inst.header.columns = omega arith in
      cc (
        product_slot v.table (group_power G base_of a) (group_power G (group_quotient G r r') b) j h,
        power_slot v.table base_of a j h,
        base_of_at j h,
        power_slot v.table (group_quotient G r r') b j h,
        quotient_slot v.table r r' j h,
        slot_combined inst.header (statement_at inst j) a b (get_or r.0 j 0) (get_or r'.0 j 0) (each_at _ _ r'.0 r'.1 j h),
        formula_at inst a b r.0 r'.0 j h,
      ))

  -- in kind 1 every power ℓ and every power of a slot of u is 0
  exponent_matching : inst.header.kind ≡ 1 → (y j : ℕ) (k : ℤ)
      → raise inst.header y (pos inst.header.order) ≡ raise inst.header (base_coordinate inst j) k
  exponent_matching e y j k =
      let q = inst.header.order in
      raise_exponent inst.header e y (pos q) ∙ residue_pos q (q * y) ∙ mul-mod_right q y
      ∙ sym (raise_exponent inst.header e (base_coordinate inst j) k
      ∙ rw (base_slot_exponent inst.header e _, *ℤ-zero k) (residue_pos q 0 ∙ zero-mod q))

  module _ (t : Codomain (table_of inst)) (c c' : ℕ) (r r' : Domain (table_of inst))
      (first : Accepting (homomorphism v.table) (statement_vector v) t c r) (second : Accepting (homomorphism v.table) (statement_vector v) t c' r') where
    -- in kind 2 a row of the image is the slot's power ℓ, and [r/r'] = z^(c − c')
    root_matching : inst.header.kind ≢ 1 → (j : ℕ) → j < inst.header.columns
        → raise inst.header (get_or (group_quotient (domain_group v.table) r r').0 j 0) (pos inst.header.order)
        ≡ raise inst.header (base_coordinate inst j) (pos c -ℤ pos c')
    unfolding homomorphism
    root_matching n j h =
        let row = column_row n j h in
        let y : Domain (table_of inst) = group_quotient (domain_group v.table) r r' in
        let whole = quotient_image (homomorphism v.table) (statement_vector v) t c c' r r' first second in
        let carried = ap (λ (w : Codomain (table_of inst)). get_or w.0 j 0) whole in
        raise_root inst.header n _ (pos inst.header.order) ∙ power_pos _ _ _ ∙ sym (row_image_root (table_of inst) n y.0 j)
        ∙ sym (image_of_at v.table y j row) ∙ carried ∙ power_row v.table (statement_vector v) (pos c -ℤ pos c') j row
        ∙ sym (raise_root inst.header n (base_coordinate inst j) (pos c -ℤ pos c')
        ∙ rw (base_slot_root inst.header n _, statement_vector_at v j row))

    -- (r/r')^ℓ = u^(c − c')
    pub matching : group_power (domain_group v.table) (group_quotient (domain_group v.table) r r') (pos inst.header.order)
        ≡ group_power (domain_group v.table) base_of (pos c -ℤ pos c')
    matching = same_slots (coordinates_of v.table) inst.header.columns _ _ (λ j h.
        power_slot v.table (group_quotient (domain_group v.table) r r') (pos inst.header.order) j h
        ∙ by_kind inst.header (λ e. exponent_matching e _ j _) (λ n. root_matching n j h)
        ∙ sym (power_slot v.table base_of (pos c -ℤ pos c') j h ∙ rw (base_of_at j h)))

    -- the formula's value is a witness
    pub formula_witness : (a b : ℤ) → Bezout inst.header.order c c' a b → Witness inst (formula inst a b r.0 r'.0)
    unfolding homomorphism image_of statement_vector
    formula_witness a b one =
        let x : Domain (table_of inst) = witness_formula (domain_group v.table) base_of a b r r' in
        let ℓ = inst.header.order in
        let carried = formula_carried (homomorphism v.table) (statement_vector v) t c c' r r' first second base_of ℓ base_image a b one in
        subst (Witness inst) (formula_value a b r r') (record { slots = x.1; carried = ap (λ (y : Codomain (table_of inst)). y.0) carried })

    -- all integers that fit give the same value
    pub formula_any : (a b a' b' : ℤ) → Bezout inst.header.order c c' a b → Bezout inst.header.order c c' a' b'
        → formula inst a b r.0 r'.0 ≡ formula inst a' b' r.0 r'.0
    formula_any a b a' b' one one' =
        sym (formula_value a b r r')
        ∙ ap (λ (x : Domain (table_of inst)). x.0) (any_choice (domain_group v.table) base_of r r' inst.header.order c c' matching a b one a' b' one')
        ∙ formula_value a' b' r r'

    -- the rounds swapped, with integers of their own, give the same value
    pub formula_swapped : (a b a' b' : ℤ) → Bezout inst.header.order c c' a b → Bezout inst.header.order c' c a' b'
        → formula inst a b r.0 r'.0 ≡ formula inst a' b' r'.0 r.0
    formula_swapped a b a' b' one one' =
        sym (formula_value a b r r')
        ∙ ap (λ (x : Domain (table_of inst)). x.0) (swapped (domain_group v.table) base_of r r' inst.header.order c c' matching a b one a' b' one')
        ∙ formula_value a' b' r' r
