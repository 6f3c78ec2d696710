-- The values and blinding numbers of a writer's entries: the definition's are such, there are no others, and they are below q.
-- Assumes nothing.
use Prim.Native.Nat.{ℕ, zero, suc, ◌+◌, ◌*◌, ◌%◌, ◌<◌, ◌≤◌}
use mathlib.Core.Path.{◌≡◌, refl, sym, ap, ap₂, subst, ◌∙◌}
use mathlib.Core.Logic.{◌⊎◌, inl, inr}
use mathlib.Core.List.{List, []}
use native.Mathlib.Decide.{dec_lt}
use native.Mathlib.Nat.{mod-lt}
use native.Mathlib.Omega.{arith}
use lib.ListN.{get_or-append, length, length-append}
use lib.Seq.{get_or_at}
use Rattle.ledgers.specs.Lines.{entry_at}
use Rattle.ledgers.specs.Meaning.{ProductEntry, Values}
use Rattle.ledgers.specs.RunsWhere.{RightEntry}
use Rattle.ledgers.specs.Write.{Opening, opening_at, opening_of, openings}
use Rattle.ledgers.specs.declared.Base.{Base}
use Rattle.ledgers.specs.declared.Entries.{Entries}
use Rattle.ledgers.specs.declared.Entry.{Entry}
use Rattle.ledgers.proofs.Commitments.{by_lines}

-- a right entry that is a sum or a product names lines above it
pub entry_above : (base : Base) (i : ℕ) (e : Entry) → RightEntry base i e → (e.kind ≡ 2) ⊎ (e.kind ≡ 3)
    → (e.first < i) × (e.second < i)
entry_above base i e (inl (one, v, ρ)) (inl k) = absurd (omega (arith, one, k))
entry_above base i e (inl (one, v, ρ)) (inr k) = absurd (omega (arith, one, k))
entry_above base i e (inr (inl (two, first, second))) joins = (first, second)
entry_above base i e (inr (inr p)) joins = (p.1, p.2)

-- ---- the opening of an entry, by its kind

module _ (q : ℕ) (above : List Opening) (e : Entry) where
  pub opening_given : e.kind ≡ 1 → opening_of q above e ≡ record { value = e.value; blinding = e.blinding }
  unfolding opening_of
  opening_given one = rw one

  pub opening_sum : e.kind ≡ 2
      → opening_of q above e
      ≡ record {
        value = ((opening_at above e.first).value + (opening_at above e.second).value) % q;
        blinding = ((opening_at above e.first).blinding + (opening_at above e.second).blinding) % q;
      }
  unfolding opening_of
  opening_sum two = rw two

  pub opening_product : e.kind ≡ 3
      → opening_of q above e
      ≡ record { value = (opening_at above e.first).value * (opening_at above e.second).value % q; blinding = e.blinding }
  unfolding opening_of
  opening_product three = rw three

module _ (q : ℕ) (entries : Entries) where
  pub length_openings : (i : ℕ) → length (openings q entries i) ≡ i
  unfolding openings
  length_openings zero = refl
  length_openings (suc i) = length-append (openings q entries i) _ ∙ omega (arith, length_openings i)

  -- the opening of entry i by the definition
  abbrev pub own_opening : ℕ → Opening
  own_opening i = opening_of q (openings q entries i) (entry_at entries i)

  abbrev pub value_of : ℕ → ℕ
  value_of i = (own_opening i).value

  abbrev pub blinding_of : ℕ → ℕ
  blinding_of i = (own_opening i).blinding

  -- it stands in every list of more openings
  pub opening_at_law : (i k : ℕ) → k < i → opening_at (openings q entries i) k ≡ own_opening k
  unfolding openings opening_at
  opening_at_law zero k inside = absurd (omega arith)
  opening_at_law (suc i) k inside = elim (dec_lt k i) [
    | yes early ↦
        get_or-append (openings q entries i) _ _ k (omega (arith, length_openings i)) ∙ opening_at_law i k early
    | no late ↦
        let same : i ≡ k = omega arith in
        get_or_at (openings q entries i) _ [] _ k (length_openings i ∙ same) ∙ ap own_opening same
  ]

module _ (base : Base) (entries : Entries) (right : (i : ℕ) → i < entries.count → RightEntry base i (entry_at entries i)) where
  -- the definition's are the entries' values
  pub our_values : Values base entries (value_of base.order entries) (blinding_of base.order entries)
  our_values =
      let q = base.order in
      let at = opening_at_law q entries in
      record {
        given = λ i inside one.
            let same = opening_given q (openings q entries i) (entry_at entries i) one in
            (ap (λ (o : Opening). o.value) same, ap (λ (o : Opening). o.blinding) same);
        added = λ i inside two.
            let (first, second) = entry_above base i (entry_at entries i) (right i inside) (inl two) in
            let same = opening_sum q (openings q entries i) (entry_at entries i) two in (
              ap (λ (o : Opening). o.value) same
                  ∙ ap₂ (λ (x y : Opening). (x.value + y.value) % q) (at i _ first) (at i _ second),
              ap (λ (o : Opening). o.blinding) same
                  ∙ ap₂ (λ (x y : Opening). (x.blinding + y.blinding) % q) (at i _ first) (at i _ second),
            );
        multiplied = λ i inside three.
            let (first, second) = entry_above base i (entry_at entries i) (right i inside) (inr three) in
            let same = opening_product q (openings q entries i) (entry_at entries i) three in (
              ap (λ (o : Opening). o.value) same
                  ∙ ap₂ (λ (x y : Opening). x.value * y.value % q) (at i _ first) (at i _ second),
              ap (λ (o : Opening). o.blinding) same,
            );
      }

  -- there are no others
  pub values_only : (v ρ v' ρ' : ℕ → ℕ) → Values base entries v ρ → Values base entries v' ρ' → (i : ℕ) → i < entries.count
      → (v i ≡ v' i) × (ρ i ≡ ρ' i)
  values_only v ρ v' ρ' c c' =
      by_lines (λ i. (v i ≡ v' i) × (ρ i ≡ ρ' i)) entries.count (λ i inside before. next i inside before (right i inside))
    where
      next : (i : ℕ) → i < entries.count → ((k : ℕ) → k < i → (v k ≡ v' k) × (ρ k ≡ ρ' k)) → RightEntry base i (entry_at entries i)
          → (v i ≡ v' i) × (ρ i ≡ ρ' i)
      next i inside before (inl (one, low, blind)) =
          let (a, b) = c.given i inside one in
          let (a', b') = c'.given i inside one in
          (a ∙ sym a', b ∙ sym b')
      next i inside before (inr (inl (two, first, second))) =
          let (a, b) = c.added i inside two in
          let (a', b') = c'.added i inside two in
          let (x, y) = before (entry_at entries i).first first in
          let (x', y') = before (entry_at entries i).second second in
          (a ∙ ap₂ (λ (k l : ℕ). (k + l) % base.order) x x' ∙ sym a', b ∙ ap₂ (λ (k l : ℕ). (k + l) % base.order) y y' ∙ sym b')
      next i inside before (inr (inr p)) =
          let (a, b) = c.multiplied i inside p.0 in
          let (a', b') = c'.multiplied i inside p.0 in
          let (x, y) = before (entry_at entries i).first p.1 in
          let (x', y') = before (entry_at entries i).second p.2 in
          (a ∙ ap₂ (λ (k l : ℕ). k * l % base.order) x x' ∙ sym a', b ∙ sym b')

  -- so a product entry over some is one over others
  pub entry_over : (v ρ v' ρ' : ℕ → ℕ) → Values base entries v ρ → Values base entries v' ρ' → (i a α b β δ : ℕ)
      → ProductEntry base entries v ρ i a α b β δ → ProductEntry base entries v' ρ' i a α b β δ
  entry_over v ρ v' ρ' c c' i a α b β δ p =
      let inside = p.inside in
      let (first, second) = entry_above base i (entry_at entries i) (right i inside) (inr p.kind) in
      let same = values_only v' ρ' v ρ c' c in
      let (x, y) = same (entry_at entries i).first (omega (arith, first, inside)) in
      let (x', y') = same (entry_at entries i).second (omega (arith, second, inside)) in
      record {
        inside = inside;
        kind = p.kind;
        first = (x ∙ p.first.0, y ∙ p.first.1);
        second = (x' ∙ p.second.0, y' ∙ p.second.1);
        below = p.below;
        own = p.own;
      }

  -- they are below q
  pub values_below : 2 ≤ base.order → (v ρ : ℕ → ℕ) → Values base entries v ρ → (i : ℕ) → i < entries.count
      → (v i < base.order) × (ρ i < base.order)
  values_below order v ρ c i inside = which (right i inside)
    where
      which : RightEntry base i (entry_at entries i) → (v i < base.order) × (ρ i < base.order)
      which (inl (one, low, blind)) =
          let (a, b) = c.given i inside one in
          (omega (arith, a, low), omega (arith, b, blind))
      which (inr (inl (two, first, second))) =
          let (a, b) = c.added i inside two in
          let some : 0 < base.order = omega (arith, order) in
          (subst (λ (k : ℕ). k < base.order) (sym a) (mod-lt _ some), subst (λ (k : ℕ). k < base.order) (sym b) (mod-lt _ some))
      which (inr (inr p)) =
          let (a, b) = c.multiplied i inside p.0 in
          let some : 0 < base.order = omega (arith, order) in
          (subst (λ (k : ℕ). k < base.order) (sym a) (mod-lt _ some), subst (λ (k : ℕ). k < base.order) (sym b) p.3)
