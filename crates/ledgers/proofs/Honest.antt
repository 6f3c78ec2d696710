-- The honest round of a product in numbers: (a, α, δ) is a witness of the product statement of C(a, α), C(b, β) and C(ab, aβ + δ), and
-- Peggy's round of it is accepted.
-- Assumes nothing.
use Prim.Native.Nat.{ℕ, zero, suc, ◌+◌, ◌*◌, ◌%◌, ◌^◌, ◌<◌}
use mathlib.Core.Path.{◌≡◌, refl, sym, ap, ap₂, ◌∙◌}
use mathlib.Core.List.{List, [], ◌∷◌}
use native.Mathlib.Omega.{arith}
use lib.ListN.{get_or}
use Rattle.types.specs.declared.Verdict.TheVariants.{Accepted}
use Rattle.lists.specs.Places.{items_at, pad8, places, tabulate}
use Rattle.lists.proofs.Each.{each_places}
use Rattle.patterns.specs.Pattern.{header_for, made_for}
use Rattle.patterns.specs.Table.{kind_of, made, pattern_of, patterns, pedersen}
use Rattle.patterns.proofs.Meaning.{product_commitments}
use Rattle.sigma.specs.Element.{Coordinate, Element}
use Rattle.sigma.specs.Image.{image}
use Rattle.sigma.specs.Instance.{Instance, is_exponent, table_of}
use Rattle.sigma.specs.Judge.{judge_loaded}
use Rattle.sigma.specs.Knowledge.{Choice, Witness, honest_on}
use Rattle.sigma.specs.Reads.{round_of}
use Rattle.sigma.specs.Round.{response, response_coordinate}
use Rattle.sigma.specs.Valid.{Valid}
use Rattle.sigma.proofs.Calls.{valid_judge_accepted}
use Rattle.sigma.proofs.CoordinateGroup.{coordinate_exponent}
use Rattle.sigma.proofs.Prover.{honest_accepted}
use Rattle.ledgers.specs.Ledger.{line_round, product_of}
use Rattle.ledgers.specs.Meaning.{RowsHold, committed}
use Rattle.ledgers.specs.Refusals.{product_header}
use Rattle.ledgers.specs.declared.Base.{Base}
use Rattle.ledgers.specs.declared.Line.{Line}
use Rattle.ledgers.proofs.Extracts.{pedersen_reduced}
use Rattle.ledgers.proofs.Made.{powers_element}
use Rattle.ledgers.proofs.Product.{image_is, rows_hold}
use Rattle.ledgers.proofs.Valid.{Sound, product_valid}

-- every commitment is a group element
pub committed_element : (base : Base) → Sound base → (v ρ : ℕ) → Element (product_header base) (committed base v ρ)
committed_element base right v ρ = powers_element base right base.g base.h v ρ right.g right.h

module _ (base : Base) (right : Sound base) (a α b β δ : ℕ) (low : a < base.order) (blind : α < base.order) (below : δ < base.order) where
  -- the product statement
  abbrev pub factors : Instance
  factors =
      product_of base (committed base a α) (committed base b β)
      (committed base (a * b % base.order) ((a * β + δ) % base.order))

  pub factors_valid : Valid factors
  factors_valid =
      product_valid base right _ _ _ (committed_element base right a α) (committed_element base right b β)
      (committed_element base right (a * b % base.order) ((a * β + δ) % base.order))

  -- its witness
  pub factors_witness : Witness factors (a ∷ α ∷ δ ∷ [])
  unfolding product_of made made_for header_for kind_of pattern_of patterns places tabulate items_at pad8 pedersen
  factors_witness =
      let m = base.modulus in
      let q = base.order in
      let coordinate = coordinate_exponent (product_header base) refl in
      record {
        slots = (coordinate a low, (coordinate α blind, (coordinate δ below, tt)));
        carried =
            product_commitments m q base.challenges base.g base.h b β a α δ
            ∙ ap (λ (k : ℕ). committed base a α ∷ k ∷ [])
            (pedersen_reduced m q base.g base.h (a * b) (a * β + δ) (right.g.ordered refl) (right.h.ordered refl));
      }

  module _ (c : ℕ) (few : c < base.challenges) (nonce : List ℕ) where
    -- t and r of three nonce slots
    pub t_numbers : image (table_of factors) (places 3 nonce)
        ≡ base.g ^ get_or nonce 0 0 * base.h ^ get_or nonce 1 0 % base.modulus ∷
        committed base b β ^ get_or nonce 0 0 * base.h ^ get_or nonce 2 0 % base.modulus ∷ []
    unfolding places tabulate items_at
    t_numbers = image_is base _ _ _ factors_valid (places 3 nonce)

    pub r_numbers : response factors.header (places 3 nonce) c (a ∷ α ∷ δ ∷ [])
        ≡ (get_or nonce 0 0 + c * a) % base.order ∷ (get_or nonce 1 0 + c * α) % base.order ∷ (get_or nonce 2 0 + c * δ) % base.order ∷ []
    unfolding response response_coordinate is_exponent places tabulate items_at product_of made made_for header_for kind_of pattern_of patterns
    r_numbers = refl

    module _ (k0 : get_or nonce 0 0 < base.order) (k1 : get_or nonce 1 0 < base.order) (k2 : get_or nonce 2 0 < base.order) where
      -- the nonce is a choice of slots
      pub nonce_slots : Choice factors (places 3 nonce)
      unfolding product_of made made_for header_for kind_of pattern_of patterns
      nonce_slots =
          each_places (Coordinate (product_header base)) 3 nonce (λ j inside.
          coordinate_exponent (product_header base) refl (get_or nonce j 0) (slot j inside))
        where
          slot : (j : ℕ) → j < 3 → get_or nonce j 0 < base.order
          slot zero inside = k0
          slot (suc zero) inside = k1
          slot (suc (suc zero)) inside = k2
          slot (suc (suc (suc j))) inside = absurd (omega arith)

      -- the round is accepted
      pub factors_accepted : judge_loaded factors
          (round_of
          (base.g ^ get_or nonce 0 0 * base.h ^ get_or nonce 1 0 % base.modulus ∷
          committed base b β ^ get_or nonce 0 0 * base.h ^ get_or nonce 2 0 % base.modulus ∷ [])
          c
          ((get_or nonce 0 0 + c * a) % base.order ∷ (get_or nonce 1 0 + c * α) % base.order ∷ (get_or nonce 2 0 + c * δ) % base.order ∷ []))
          ≡ Accepted
      unfolding honest_on product_of made made_for header_for
      factors_accepted =
          ap₂ (λ (t r : List ℕ). judge_loaded factors (round_of t c r)) (sym t_numbers) (sym r_numbers)
          ∙ honest_accepted factors_valid (a ∷ α ∷ δ ∷ []) factors_witness c few (places 3 nonce) nonce_slots

      -- so its rows hold, on any line that has it
      pub factors_hold : (line : Line)
          → line.t
          ≡ base.g ^ get_or nonce 0 0 * base.h ^ get_or nonce 1 0 % base.modulus ∷
          committed base b β ^ get_or nonce 0 0 * base.h ^ get_or nonce 2 0 % base.modulus ∷ []
          → line.challenge ≡ c
          → line.response
          ≡ (get_or nonce 0 0 + c * a) % base.order ∷ (get_or nonce 1 0 + c * α) % base.order ∷ (get_or nonce 2 0 + c * δ) % base.order ∷ []
          → RowsHold base (committed base a α) (committed base b β)
          (committed base (a * b % base.order) ((a * β + δ) % base.order)) line
      factors_hold line t challenge r =
          let same : line_round line ≡ round_of _ c _ = λ i. round_of (t i) (challenge i) (r i) in
          let accepted = ap (judge_loaded factors) same ∙ factors_accepted in
          (rows_hold base _ _ _ factors_valid line).0 ((valid_judge_accepted factors (line_round line) factors_valid).0 accepted).1
