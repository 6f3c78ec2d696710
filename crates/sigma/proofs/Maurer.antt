-- A round on values is Maurer's round over the table's homomorphism: the values of its parts, and when it is accepted.
-- Assumes nothing.
use Prim.Native.Nat.{ℕ, ◌*◌, ◌%◌, ◌^◌, ◌<◌}
use mathlib.Core.Path.{◌≡◌, sym, ap, ◌∙◌}
use mathlib.Core.Logic.{◌↔◌}
use lib.IntN.{ℤ, pos, neg_ℤ}
use lib.ListN.{get_or}
use Rattle.lists.proofs.Each.{each_at}
use Rattle.lists.proofs.Places.{get_d_places}
use Rattle.groups.specs.Group.{group_power, group_quotient}
use Rattle.groups.specs.Transcript.{Accepting, honest_response, simulated_commitment}
use Rattle.groups.specs.Vector.{number_power, vector_group, value_of_product}
use Rattle.groups.proofs.Vectors.{value_of_power, value_of_quotient}
use Rattle.groups.proofs.Rows.{accepted_row, accepted_by_rows, value_of_simulated, value_of_response}
use Rattle.numbers.specs.Integer.{power}
use Rattle.numbers.proofs.Congruence.{mod_mul_right}
use Rattle.numbers.proofs.Exponent.{power_pos}
use Rattle.sigma.specs.Instance.{Instance, Table, table_of, statement_at}
use Rattle.sigma.specs.Domain.{Domain, Codomain}
use Rattle.sigma.specs.Element.{combine}
use Rattle.sigma.specs.Meaning.{Holds}
use Rattle.sigma.specs.Reads.{round_of}
use Rattle.sigma.specs.Round.{response}
use Rattle.sigma.specs.Simulator.{simulated}
use Rattle.sigma.specs.Valid.{Valid, ValidTable}
use Rattle.sigma.proofs.CoordinateGroup.{opposite, raise, coordinate_group, coordinate_power, response_combine}
use Rattle.sigma.proofs.ElementGroup.{element_group, element_power}
use Rattle.sigma.proofs.Homomorphism.{coordinates_of, elements_of, domain_group, codomain_group}
use Rattle.sigma.proofs.Homomorphism.{elements_from, image_of_at, homomorphism}
use Rattle.sigma.proofs.Valid.{valid_modulus, valid_order}
use Rattle.sigma.proofs.Values.{simulated_at, response_at}

module _ {table : Table} (v : ValidTable table) where
  -- slot j of a product
  pub product_slot : (x y : Domain table) (j : ℕ) → j < table.header.columns
      → get_or ((domain_group v).product x y).0 j 0 ≡ combine table.header (get_or x.0 j 0) (get_or y.0 j 0)
  unfolding vector_group coordinates_of coordinate_group
  product_slot = value_of_product (coordinates_of v) table.header.columns

  -- slot j of a power
  pub power_slot : (x : Domain table) (k : ℤ) (j : ℕ) → j < table.header.columns
      → get_or (group_power (domain_group v) x k).0 j 0 ≡ raise table.header (get_or x.0 j 0) k
  unfolding coordinates_of
  power_slot x k j h =
      value_of_power (coordinates_of v) table.header.columns x k j h
      ∙ coordinate_power table.header (valid_modulus v) (valid_order v) (get_or x.0 j 0) (each_at _ _ x.0 x.1 j h) k

  -- row i of a power
  pub power_row : (y : Codomain table) (k : ℤ) (i : ℕ) → i < table.header.rows
      → get_or (group_power (codomain_group v) y k).0 i 0 ≡ power table.header.modulus (get_or y.0 i 0) k
  unfolding elements_of
  power_row y k i h =
      value_of_power (elements_of v) table.header.rows y k i h
      ∙ element_power table.header (valid_modulus v) (valid_order v) (get_or y.0 i 0) k

  -- slot j of a quotient
  pub quotient_slot : (x y : Domain table) (j : ℕ) → j < table.header.columns
      → get_or (group_quotient (domain_group v) x y).0 j 0 ≡ combine table.header (get_or x.0 j 0) (opposite table.header (get_or y.0 j 0))
  unfolding coordinates_of coordinate_group
  quotient_slot = value_of_quotient (coordinates_of v) table.header.columns

  -- the product of a group element and a power, in one row
  side_at : (t w : ℕ) (k : ℤ)
      → (elements_of v).product t (number_power (elements_of v) w k) ≡ t * power table.header.modulus w k % table.header.modulus
  unfolding elements_of element_group
  side_at t w k = ap (λ (x : ℕ). t * x % table.header.modulus) (element_power table.header (valid_modulus v) (valid_order v) w k)

  -- slot j of the response
  pub response_value : (c : ℕ) (x k : Domain table) (j : ℕ) → j < table.header.columns
      → get_or (honest_response (domain_group v) x c k).0 j 0 ≡ get_or (response table.header k.0 c x.0) j 0
  unfolding coordinates_of coordinate_group
  response_value c x k j h =
      let y = get_or x.0 j 0 in
      let powers = coordinate_power table.header (valid_modulus v) (valid_order v) y (each_at _ _ x.0 x.1 j h) (pos c) in
      value_of_response (coordinates_of v) table.header.columns x c k j h
      ∙ ap (combine table.header (get_or k.0 j 0)) powers
      ∙ sym (response_at table.header k.0 c x.0 j h ∙ response_combine table.header _ c y)

module _ {inst : Instance} (v : Valid inst) where
  -- the statement as s group elements
  unfoldable pub statement_vector : Codomain (table_of inst)
  unfolding statement_at
  statement_vector = elements_from (table_of inst) inst.statement v.statement

  -- row i of it
  pub statement_vector_at : (i : ℕ) → i < inst.header.rows → get_or statement_vector.0 i 0 ≡ statement_at inst i
  unfolding statement_vector statement_at
  statement_vector_at i h = get_d_places inst.header.rows inst.statement i h

  module _ (c : ℕ) where
    -- row i of t · z^c
    expected_at : (t i : ℕ) → i < inst.header.rows
        → (elements_of v.table).product t (number_power (elements_of v.table) (get_or statement_vector.0 i 0) (pos c))
        ≡ t * statement_at inst i ^ c % inst.header.modulus
    expected_at t i h =
        side_at v.table t _ (pos c)
        ∙ rw (power_pos, statement_vector_at i h) (mod_mul_right inst.header.modulus t (statement_at inst i ^ c))

    -- Maurer's verifier accepts exactly where 01's equation holds in every row
    pub accepts_holds : (t : Codomain (table_of inst)) (r : Domain (table_of inst))
        → Accepting (homomorphism v.table) statement_vector t c r ↔ Holds inst (round_of t.0 c r.0)
    unfolding homomorphism
    accepts_holds t r =
        let s = inst.header.rows in
        let n = inst.header.columns in
        let f = homomorphism v.table in (
          λ a i h.
              sym (image_of_at v.table r i h)
              ∙ accepted_row (coordinates_of v.table) n (elements_of v.table) s f statement_vector c t r a i h
              ∙ expected_at (get_or t.0 i 0) i h,
          λ rows. accepted_by_rows (coordinates_of v.table) n (elements_of v.table) s f statement_vector c t r
              (λ i h. image_of_at v.table r i h ∙ rows i h ∙ sym (expected_at (get_or t.0 i 0) i h)),
        )

    -- row i of the simulator's commitment
    pub simulated_value : (r : Domain (table_of inst)) (i : ℕ) → i < inst.header.rows
        → get_or (simulated_commitment (homomorphism v.table) statement_vector c r).0 i 0 ≡ get_or (simulated inst c r.0) i 0
    unfolding homomorphism
    simulated_value r i h =
        let s = inst.header.rows in
        let n = inst.header.columns in
        value_of_simulated (coordinates_of v.table) n (elements_of v.table) s (homomorphism v.table) statement_vector c r i h
        ∙ side_at v.table _ _ (neg_ℤ (pos c)) ∙ rw (image_of_at v.table r i h, statement_vector_at i h) (sym (simulated_at inst c r.0 i h))
