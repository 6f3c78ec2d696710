-- The extractor's formula slot by slot, in each kind and in the domain: u^a · (r/r')^b (01, "A round").
-- Assumes nothing.
use Prim.Native.Nat.{ℕ, ◌+◌, ◌*◌, ◌%◌, ◌<◌}
use mathlib.Core.Path.{◌≡◌, sym, ap, ap₂, ◌∙◌}
use mathlib.Core.Logic.{◌≢◌}
use mathlib.Core.Bool.{cond}
use mathlib.Core.List.{List}
use native.Mathlib.Nat.{mod-eq_of_lt, add-mod-mod, zero-mod, zero-add}
use native.Mathlib.Omega.{arith}
use lib.IntN.{ℤ, pos, ◌-ℤ◌, ◌*ℤ◌, *ℤ-zero}
use lib.ListN.{length, get_or}
use lib.Seq.{ext_get_or}
use Rattle.types.specs.declared.Header.{Header}
use Rattle.lists.proofs.Places.{length_tabulate, get_d_tabulate, tabulate_agree}
use Rattle.numbers.specs.Integer.{residue, power}
use Rattle.numbers.specs.Inverse.{inverse}
use Rattle.numbers.proofs.Integer.{residue_pos, residue_below, residue_subtract, residue_of_residue}
use Rattle.sigma.specs.Element.{Coordinate, combine}
use Rattle.sigma.specs.Instance.{Instance, is_exponent, statement_at}
use Rattle.sigma.specs.Reads.{Agree}
use Rattle.sigma.specs.Extractor.{slot_formula, formula}
use Rattle.sigma.proofs.ByKind.{by_kind, exponent_kind, root_kind, combine_exponent, combine_root}
use Rattle.sigma.proofs.ByKind.{slot_formula_exponent, slot_formula_root}
use Rattle.sigma.proofs.CoordinateGroup.{opposite, raise, opposite_exponent, opposite_root, raise_exponent, raise_root}

module _ (h : Header) where
  -- a slot of u, for the statement's value z: 0 in kind 1, z in kind 2
  unfoldable pub base_slot : ℕ → ℕ
  base_slot z = cond (is_exponent h) 0 z

  -- in kind 1 it is 0
  pub base_slot_exponent : h.kind ≡ 1 → (z : ℕ) → base_slot z ≡ 0
  unfolding base_slot
  base_slot_exponent e z = rw (exponent_kind h e)

  -- in kind 2 it is z
  pub base_slot_root : h.kind ≢ 1 → (z : ℕ) → base_slot z ≡ z
  unfolding base_slot
  base_slot_root n z = rw (root_kind h n)

module _ (h : Header) (z : ℕ) (a b : ℤ) (r r' : ℕ) (slot : Coordinate h r') where
  -- in kind 1 the power of u is 0, and that of the quotient is the multiple of the difference
  slot_exponent : h.kind ≡ 1
      → combine h (raise h (base_slot h z) a) (raise h (combine h r (opposite h r')) b) ≡ slot_formula h z a b r r'
  slot_exponent e =
      let q = h.order in
      let below : r' < q = slot.reduced e in
      let some : 0 < q = omega arith in
      let base : raise h (base_slot h z) a ≡ 0 =
      raise_exponent h e (base_slot h z) a ∙ rw (base_slot_exponent h e z, *ℤ-zero a) (residue_pos q 0 ∙ zero-mod q) in
      let difference : combine h r (opposite h r') ≡ residue q (pos r -ℤ pos r') =
      combine_exponent h e r _ ∙ rw (opposite_exponent h e r') (add-mod-mod r _ q ∙ sym (residue_subtract q r r' below)) in
      let quotient : raise h (combine h r (opposite h r')) b ≡ residue q (b *ℤ (pos r -ℤ pos r')) =
      raise_exponent h e _ b ∙ ap (λ (d : ℕ). residue q (b *ℤ pos d)) difference ∙ residue_of_residue q b (pos r -ℤ pos r') some in
      combine_exponent h e _ _ ∙ ap₂ (λ (u v : ℕ). (u + v) % q) base quotient
      ∙ rw zero-add (mod-eq_of_lt (residue_below q _ some)) ∙ sym (slot_formula_exponent h e z a b r r')

  -- a slot of the formula is u^a · (r/r')^b in the domain
  pub slot_combined : combine h (raise h (base_slot h z) a) (raise h (combine h r (opposite h r')) b) ≡ slot_formula h z a b r r'
  slot_combined =
      by_kind h slot_exponent (λ n. simp (combine_root h n, raise_root h n, opposite_root h n, base_slot_root h n, slot_formula_root h n))

module _ (i : Instance) (a b : ℤ) (r r' : List ℕ) where
  -- the formula has a value for each column
  pub length_formula : length (formula i a b r r') ≡ i.header.columns
  unfolding formula
  length_formula = length_tabulate _ _

  -- slot j of the formula
  pub formula_at : (j : ℕ) → j < i.header.columns
      → get_or (formula i a b r r') j 0 ≡ slot_formula i.header (statement_at i j) a b (get_or r j 0) (get_or r' j 0)
  unfolding formula
  formula_at j h = get_d_tabulate _ _ j 0 h

  -- the formula reads n places of the two responses
  pub formula_agree : (s s' : List ℕ) → Agree i.header.columns r s → Agree i.header.columns r' s'
      → formula i a b r r' ≡ formula i a b s s'
  unfolding formula
  formula_agree s s' same same' = tabulate_agree i.header.columns _ _ (λ j h. rw (same j h, same' j h))

  -- in kind 1 slot j is b(r − r') mod q
  pub formula_exponent : (j : ℕ) → i.header.kind ≡ 1 → j < i.header.columns
      → get_or (formula i a b r r') j 0 ≡ residue i.header.order (b *ℤ (pos (get_or r j 0) -ℤ pos (get_or r' j 0)))
  formula_exponent j e h = formula_at j h ∙ slot_formula_exponent i.header e _ a b _ _

  -- in kind 2 slot j is z^a · (r/r')^b mod m
  pub formula_root : (j : ℕ) → i.header.kind ≢ 1 → j < i.header.columns
      → get_or (formula i a b r r') j 0
      ≡ power i.header.modulus (statement_at i j) a
      * power i.header.modulus (get_or r j 0 * inverse i.header.modulus (get_or r' j 0) % i.header.modulus) b % i.header.modulus
  formula_root j n h = formula_at j h ∙ slot_formula_root i.header n _ a b _ _

  -- a list of n values that are the formula's, slot by slot, is the formula
  pub formula_by_kind : (x : List ℕ) → length x ≡ i.header.columns
      → (i.header.kind ≡ 1 → (j : ℕ) → j < i.header.columns
      → get_or x j 0 ≡ residue i.header.order (b *ℤ (pos (get_or r j 0) -ℤ pos (get_or r' j 0))))
      → (i.header.kind ≢ 1 → (j : ℕ) → j < i.header.columns
      → get_or x j 0
      ≡ power i.header.modulus (statement_at i j) a
      * power i.header.modulus (get_or r j 0 * inverse i.header.modulus (get_or r' j 0) % i.header.modulus) b % i.header.modulus)
      → formula i a b r r' ≡ x
  formula_by_kind x long exponent root =
      ext_get_or 0 _ _ (length_formula ∙ sym long) (λ j l.
      let h : j < i.header.columns = omega (arith, length_formula) in
      by_kind i.header (λ e. formula_exponent j e h ∙ sym (exponent e j h)) (λ n. formula_root j n h ∙ sym (root n j h)))
