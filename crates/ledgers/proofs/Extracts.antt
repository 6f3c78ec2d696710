-- A witness of the product statement opens the first factor and the product, if the second factor opens.
-- Assumes nothing.
use Prim.Native.Nat.{ℕ, ◌+◌, ◌*◌, ◌%◌, ◌^◌, ◌<◌, ◌≤◌}
use mathlib.Core.Path.{◌≡◌, refl, sym, ap, ◌∙◌}
use mathlib.Core.List.{List, [], ◌∷◌, head-eq_of_cons-eq, tail-eq_of_cons-eq}
use native.Mathlib.Nat.{mod-lt}
use Rattle.types.specs.declared.Computed.{Computed}
use Rattle.types.specs.declared.Header.{Header}
use Rattle.lists.specs.Each.{Each}
use Rattle.lists.specs.Places.{items_at, pad8, places, tabulate}
use Rattle.numbers.proofs.Congruence.{cong_mul}
use Rattle.numbers.proofs.Powers.{cong_pow_mod}
use Rattle.patterns.specs.Meaning.{made_image}
use Rattle.patterns.specs.Pattern.{header_for, made_for}
use Rattle.patterns.specs.Table.{kind_of, made, pattern_of, patterns, pedersen}
use Rattle.patterns.proofs.Meaning.{product_commitments}
use Rattle.sigma.specs.Element.{Coordinate}
use Rattle.sigma.specs.Knowledge.{Witness}
use Rattle.ledgers.specs.Ledger.{product_of}
use Rattle.ledgers.specs.Meaning.{Opens}
use Rattle.ledgers.specs.declared.Base.{Base}

-- a commitment by exponents mod q
pub pedersen_reduced : (m q g h v ρ : ℕ) → g ^ q % m ≡ 1 → h ^ q % m ≡ 1
    → pedersen m g h v ρ ≡ g ^ (v % q) * h ^ (ρ % q) % m
unfolding pedersen
pedersen_reduced m q g h v ρ gq hq = sym (cong_mul (cong_pow_mod m q g gq v) (cong_pow_mod m q h hq ρ)).same

-- three slots of the domain are three numbers below q
three : (h : Header) → h.kind ≡ 1 → (x : List ℕ) → Each (Coordinate h) 3 x
    → (a : ℕ) × (α : ℕ) × (δ : ℕ) × (x ≡ a ∷ α ∷ δ ∷ []) × (a < h.order) × (α < h.order) × (δ < h.order)
three h one [] e = absurd e
three h one (a ∷ []) e = absurd e.1
three h one (a ∷ b ∷ []) e = absurd e.1.1
three h one (a ∷ b ∷ d ∷ []) e = (a, b, d, refl, e.0.reduced one, e.1.0.reduced one, e.1.1.0.reduced one)
three h one (a ∷ b ∷ d ∷ x ∷ xs) e = absurd e.1.1.1

-- three values in eight places
pub in_eight : (x : List ℕ) (a α δ : ℕ) → x ≡ a ∷ α ∷ δ ∷ []
    → ◌≡◌ {A = Computed} (record { refusal = 0; values = pad8 0 x }) (record { refusal = 0; values = a ∷ α ∷ δ ∷ 0 ∷ 0 ∷ 0 ∷ 0 ∷ 0 ∷ [] })
unfolding pad8
in_eight x a α δ same = ap (λ (y : List ℕ). record { refusal = 0; values = pad8 0 y }) same

module _ (base : Base) (A B E : ℕ) (gq : base.g ^ base.order % base.modulus ≡ 1) (hq : base.h ^ base.order % base.modulus ≡ 1)
    (some : 1 ≤ base.order) where
  pub witness_opens : (x : List ℕ) → Witness (product_of base A B E) x → (b β : ℕ) → B ≡ base.g ^ b * base.h ^ β % base.modulus
      → (a : ℕ) × (α : ℕ) × (δ : ℕ) × (x ≡ a ∷ α ∷ δ ∷ []) × Opens base A a α
      × Opens base E (a * b % base.order) ((a * β + δ) % base.order)
  unfolding product_of made made_for header_for kind_of pattern_of patterns places tabulate items_at pedersen pad8
  witness_opens x w b β second =
      let m = base.modulus in
      let q = base.order in
      let g = base.g in
      let h = base.h in
      let (a, α, δ, same, below, below', below'') = three (product_of base A B E).header refl x w.slots in
      let both : made_image 5 m q base.challenges (g ∷ h ∷ B ∷ []) (a ∷ α ∷ δ ∷ []) ≡ A ∷ E ∷ [] =
      ap (λ (y : List ℕ). made_image 5 m q base.challenges (g ∷ h ∷ B ∷ []) y) (sym same) ∙ w.carried in
      let value : made_image 5 m q base.challenges (g ∷ h ∷ B ∷ []) (a ∷ α ∷ δ ∷ [])
      ≡ pedersen m g h a α ∷ pedersen m g h (a * b) (a * β + δ) ∷ [] =
      ap (λ (k : ℕ). made_image 5 m q base.challenges (g ∷ h ∷ k ∷ []) (a ∷ α ∷ δ ∷ [])) second
      ∙ product_commitments m q base.challenges g h b β a α δ in
      let equal = sym both ∙ value in (
        a,
        α,
        δ,
        same,
        record { opened = head-eq_of_cons-eq equal; value_below = below; blinding_below = below' },
        record {
          opened = head-eq_of_cons-eq (tail-eq_of_cons-eq equal) ∙ pedersen_reduced m q g h (a * b) (a * β + δ) gq hq;
          value_below = mod-lt (a * b) some;
          blinding_below = mod-lt (a * β + δ) some;
        },
      )
