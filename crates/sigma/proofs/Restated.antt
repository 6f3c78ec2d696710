-- The statements of demand 3 hold of other calls that answer alike: they are about what is read of a round and about answers,
-- not about how a call comes to them.
-- Assumes nothing.
use Prim.Native.Nat.{ℕ}
use mathlib.Core.Path.{◌≡◌, sym, ◌∙◌}
use mathlib.Core.Logic.{◌↔◌}
use mathlib.Core.List.{List}
use Rattle.types.specs.declared.Computed.{Computed}
use Rattle.types.specs.declared.Round.{Round}
use Rattle.sigma.specs.Instance.{Instance}
use Rattle.sigma.specs.Knowledge.{AcceptedRound, Choice, MeetsEachOnce, AcceptedPair, Extraction}
use Rattle.sigma.specs.Reads.{SameRound}
use Rattle.sigma.proofs.Unread.{same_round_sym, same_round_trans, judge_same}

module _ (inst : Instance) (Accepts : Round → Type 0) (alike : (round : Round) → Accepts round ↔ AcceptedRound inst round) where
  -- rounds that are the same, accepted by a call that accepts the same rounds
  pub meets_alike : (c : ℕ) (make make' : List ℕ → Round) → ((x : List ℕ) → Choice inst x → SameRound inst.header (make' x) (make x))
      → MeetsEachOnce inst.header (Choice inst) (AcceptedRound inst) c make → MeetsEachOnce inst.header (Choice inst) Accepts c make'
  meets_alike c make make' same meets = record {
    challenged = λ x slots. (same x slots).challenge ∙ meets.challenged x slots;
    accepted = λ x slots. (alike (make' x)).1 (judge_same inst (same x slots) ∙ meets.accepted x slots);
    met = λ round e accepted.
        let (x, slots, found) = meets.met round e ((alike round).0 accepted) in
        (x, slots, same_round_trans (same x slots) found);
    once = λ x y slots slots' s.
        meets.once x y slots slots' (same_round_trans (same_round_sym (same x slots)) (same_round_trans s (same y slots')));
  }

  -- two rounds accepted by a call that accepts the same rounds
  pub pair_alike : {first second : Round} → AcceptedPair inst.header Accepts first second
      → AcceptedPair inst.header (AcceptedRound inst) first second
  pair_alike {first} {second} p = record {
    first_accepted = (alike first).0 p.first_accepted;
    second_accepted = (alike second).0 p.second_accepted;
    commitments = p.commitments;
    challenges = p.challenges;
  }

-- a call that answers as the extractor does
pub extraction_alike : (inst : Instance) (ask ask' : Round → Round → Computed)
    → ((first second : Round) → ask' first second ≡ ask first second)
    → {first second : Round} → Extraction inst ask first second → Extraction inst ask' first second
extraction_alike inst ask ask' alike {first} {second} x = record {
  value = x.value;
  witness = x.witness;
  answer = alike first second ∙ x.answer;
  swapped = alike second first ∙ x.swapped ∙ sym (alike first second);
  exponent = x.exponent;
  root = x.root;
  some_integers = x.some_integers;
}
