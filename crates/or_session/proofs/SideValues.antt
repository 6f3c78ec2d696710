-- The commitment and the response of each side are those of the session's definitions: the first side is known where the side is 0,
-- and the second where it is not.
-- Assumes nothing.
use Prim.Native.Nat.{ℕ}
use mathlib.Core.Path.{◌≡◌, refl, sym, ap, ◌∙◌}
use mathlib.Core.Bool.{Bool, cond, false, not, true}
use mathlib.Core.List.{List}
use lib.Dec.{eqb}
use Rattle.types.specs.declared.Header.{Header}
use Rattle.lists.specs.Places.{places}
use Rattle.sigma.specs.Image.{image}
use Rattle.sigma.specs.Instance.{Instance, table_of}
use Rattle.sigma.specs.Round.{response}
use Rattle.sigma.specs.Simulator.{simulated}
use Rattle.sigma.specs.Valid.{Valid}
use Rattle.image.proofs.Unread.{response_places}
use Rattle.disjunctions.specs.Prover.{first_commitment, other, own, second_commitment}
use Rattle.disjunctions.proofs.SessionTests.{first_read, second_read}
use Rattle.or_session.specs.Sides.{side_commitment, side_response}
use Rattle.or_session.proofs.OwnSide.{own_map}

-- what is read by the side's sheet
pub own_places : (side : ℕ) (i j : Instance) (x : List ℕ) {mine : Header} → mine ≡ own side i.header j.header
    → places mine.columns x ≡ places (own side i j).header.columns x
own_places side i j x is_mine =
    ap (λ (h : Header). places h.columns x) (is_mine ∙ sym (own_map side i j (λ (inst : Instance). inst.header)))

module _ {i j : Instance} (v : Valid i) (w : Valid j) (side : ℕ) (k : List ℕ) (d : ℕ) (r : List ℕ) where
  -- both commitments, of what is read
  pub first_commitment_law : first_commitment i side (places (own side i j).header.columns k) d (places (other side i j).header.columns r)
      ≡ side_commitment (eqb side 0) i k d r
  unfolding first_commitment side_commitment own
  first_commitment_law = first_read v w k d r side

  pub second_commitment_law : second_commitment j side (places (own side i j).header.columns k) d (places (other side i j).header.columns r)
      ≡ side_commitment (not (eqb side 0)) j k d r
  unfolding second_commitment side_commitment own
  second_commitment_law = second_read v w k d r side ∙ on (eqb side 0)
    where
      on : (b : Bool) → cond b (simulated j d r) (image (table_of j) k) ≡ cond (not b) (image (table_of j) k) (simulated j d r)
      on true = refl
      on false = refl

module _ (i j : Instance) (side : ℕ) (k : List ℕ) (d : ℕ) (x r : List ℕ) where
  -- both responses, of what is read
  pub first_response_law : own side
      (response (own side i j).header (places (own side i j).header.columns k) d (places (own side i j).header.columns x))
      (places (other side i j).header.columns r)
      ≡ side_response (eqb side 0) i.header k d x r
  unfolding side_response own other
  first_response_law = on (eqb side 0)
    where
      on : (b : Bool) → cond b
          (response (cond b i j).header (places (cond b i j).header.columns k) d (places (cond b i j).header.columns x))
          (places (cond b j i).header.columns r)
          ≡ cond b (response i.header k d x) (places i.header.columns r)
      on true = response_places i.header k d x
      on false = refl

  pub second_response : own side (places (other side i j).header.columns r)
      (response (own side i j).header (places (own side i j).header.columns k) d (places (own side i j).header.columns x))
      ≡ side_response (not (eqb side 0)) j.header k d x r
  unfolding side_response own other
  second_response = on (eqb side 0)
    where
      on : (b : Bool) → cond b (places (cond b j i).header.columns r)
          (response (cond b i j).header (places (cond b i j).header.columns k) d (places (cond b i j).header.columns x))
          ≡ cond (not b) (response j.header k d x) (places j.header.columns r)
      on true = refl
      on false = response_places j.header k d x
