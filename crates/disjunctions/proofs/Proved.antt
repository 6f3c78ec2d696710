-- Peggy's rounds with a witness of either side, over all choices, are exactly the accepted rounds, each from a single choice.
-- Assumes nothing.
use Prim.Native.Nat.{ℕ, zero, suc, ◌<◌}
use mathlib.Core.Path.{◌≡◌, refl, sym, ap, ◌∙◌}
use mathlib.Core.Bool.{false, not, ◌||◌}
use mathlib.Core.List.{List, []}
use native.Mathlib.Omega.{arith}
use lib.Dec.{ltb}
use borrow.Author.Tests.{le-ltb}
use Rattle.types.specs.declared.ProverPhase.TheVariants.{New, Committed}
use Rattle.disjunctions.specs.declared.OrProver.{OrProver}
use Rattle.disjunctions.specs.declared.OrStep.{OrStep}
use Rattle.lists.specs.Places.{pad8, places}
use Rattle.lists.proofs.Each.{each_at, each_length}
use Rattle.lists.proofs.Places.{get_d_places, places_pad8, places_whole}
use Rattle.rules.proofs.Call.{answer_clear}
use Rattle.formats.specs.Sheet.{instance_of}
use Rattle.runs.specs.OnSheet.{Below}
use Rattle.runs.proofs.Witness.{image_carried}
use Rattle.sigma.specs.Comparison.{differ}
use Rattle.sigma.specs.Image.{image}
use Rattle.sigma.specs.Instance.{Instance}
use Rattle.sigma.specs.Knowledge.{Choice, Witness}
use Rattle.sigma.specs.Meaning.{Coordinates}
use Rattle.sigma.specs.Round.{bad_challenge, bad_coordinates, response}
use Rattle.sigma.specs.Simulator.{simulated}
use Rattle.sigma.specs.Valid.{Valid}
use Rattle.sigma.proofs.Calculus.{both_fail}
use Rattle.sigma.proofs.Comparison.{differ_false}
use Rattle.sigma.proofs.Passed.{challenge_passes, coordinates_pass, witness_passes}
use Rattle.sigma.proofs.Unread.{coordinates_agree}
use Rattle.disjunctions.specs.Knowledge.{IsOrChoice, OrChoice}
use Rattle.disjunctions.specs.Ours.{Pair, or_round}
use Rattle.disjunctions.specs.Prover.{
  commit_or,
  committing_or,
  first_commitment,
  new_or_prover,
  or_prover_in,
  other,
  own,
  respond_or,
  responding_or,
  second_commitment,
  unfit_or,
  wiped_or,
}
use Rattle.disjunctions.specs.Round.{other_challenge}
use Rattle.disjunctions.proofs.Judged.{first_valid, second_valid}
use Rattle.disjunctions.proofs.OnPair.{on_pair_loads}
use Rattle.disjunctions.proofs.OrSessions.{commit_or_given, other_instance, own_instance, respond_or_given}
use Rattle.disjunctions.proofs.SessionTests.{first_read, says_or_prover, second_read}

-- what is read of a choice of slots is slots
choice_slots : (inst : Instance) (x : List ℕ) → Choice inst x → Coordinates inst (places inst.header.columns x)
choice_slots inst x slots =
    let n = inst.header.columns in
    coordinates_agree inst x (places n x) (λ k h. sym (get_d_places n x k h)) (each_at _ n x slots)

-- what is read of a choice is the choice
choice_read : (inst : Instance) (x : List ℕ) → Choice inst x → places inst.header.columns x ≡ x
choice_read inst x slots = places_whole inst.header.columns x (each_length _ _ x slots)

-- a side of the two is its own number
own_number : (side : ℕ) → side < 2 → own side 0 1 ≡ side
unfolding own
own_number zero h = refl
own_number (suc zero) h = refl
own_number (suc (suc n)) h = absurd (omega arith)

-- what Peggy holds once she has committed
unfoldable pub holding : Instance → Instance → ℕ → List ℕ → ℕ → List ℕ → OrProver
holding i j side k d r =
    record {
      nonce = pad8 0 k;
      response = pad8 0 r;
      commitment0 = pad8 0 (first_commitment i side k d r);
      commitment1 = pad8 0 (second_commitment j side k d r);
      challenge = d;
      side = side;
      phase = Committed;
    }

module _ {i j : Instance} (v : Valid i) (w : Valid j) (side : ℕ) (k : List ℕ) (d : ℕ) (r : List ℕ)
    (one : side < 2) (slots : Choice (own side i j) k) (below : d < i.header.challenges) (slots' : Choice (other side i j) r) where
  -- it fits the sheets
  held_fits : unfit_or i j (holding i j side k d r) ≡ false
  unfolding unfit_or holding
  held_fits =
      let n = (own side i j).header.columns in
      let m = (other side i j).header.columns in
      let k' = places n (pad8 0 k) in
      let r' = places m (pad8 0 r) in
      let known = ltb 1 side in
      let nonce = bad_coordinates (own side i j) k' in
      let answer = bad_coordinates (other side i j) r' in
      let challenge = bad_challenge i d in
      let first = differ 8 (pad8 0 (first_commitment i side k' d r')) (pad8 0 (first_commitment i side k d r)) in
      let second = differ 8 (pad8 0 (second_commitment j side k' d r')) (pad8 0 (second_commitment j side k d r)) in
      let read : k' ≡ places n k = places_pad8 n k in
      let read' : r' ≡ places m r = places_pad8 m r in
      let known_false : known ≡ false = le-ltb 1 side (omega arith) in
      let nonce_false : nonce ≡ false = rw read ((coordinates_pass (own side i j) _).1 (choice_slots (own side i j) k slots)) in
      let answer_false : answer ≡ false = rw read' ((coordinates_pass (other side i j) _).1 (choice_slots (other side i j) r slots')) in
      let challenge_false : challenge ≡ false = (challenge_passes i d).1 below in
      let first_false : first ≡ false = rw (read, read', first_read v w k d r side) ((differ_false 8 _ _).1 (λ a b. refl)) in
      let second_false : second ≡ false = rw (read, read', second_read v w k d r side) ((differ_false 8 _ _).1 (λ a b. refl)) in
      (both_fail (known || nonce || answer || challenge || first) second).1 (
        (both_fail (known || nonce || answer || challenge) first).1 (
          (both_fail (known || nonce || answer) challenge).1
              ((both_fail (known || nonce) answer).1 ((both_fail known nonce).1 (known_false, nonce_false), answer_false), challenge_false),
          first_false,
        ),
        second_false,
      )

-- ---- the calls of a new session

module _ (s s' : List ℕ) (pair : Pair s s') (side : ℕ) (one : side < 2) (choice : OrChoice) (is : IsOrChoice s s' side choice) where
  abbrev i : Instance
  i = instance_of s

  abbrev j : Instance
  j = instance_of s'

  -- the nonce is a choice of the own side, the simulated response one of the other
  own_choice : Choice (own side (instance_of s) (instance_of s')) choice.nonce
  own_choice = rw (own_instance side s s') is.nonce

  other_choice : Choice (other side (instance_of s) (instance_of s')) choice.response
  other_choice = rw (other_instance side s s') is.response

  -- committing is not refused
  pub commit_runs : (commit_or s s' new_or_prover side choice.nonce choice.challenge choice.response).refusal ≡ 0
  unfolding commit_or committing_or new_or_prover wiped_or
  commit_runs =
      let k = places (own side i j).header.columns choice.nonce in
      let r = places (other side i j).header.columns choice.response in
      let call = committing_or i j new_or_prover side choice.nonce choice.challenge choice.response in
      ap (λ (step : OrStep). step.refusal)
      (on_pair_loads s s' call pair
      ∙ answer_clear call (
        (challenge_passes i choice.challenge).1 is.challenge,
        (
          (both_fail (bad_coordinates (own side i j) k) (bad_coordinates (other side i j) r)).1 (
            (coordinates_pass (own side i j) k).1 (choice_slots (own side i j) choice.nonce own_choice),
            (coordinates_pass (other side i j) r).1 (choice_slots (other side i j) choice.response other_choice),
          ),
          (ap not ((says_or_prover New new_or_prover).complete refl), tt),
        ),
      ))

  -- it answers both commitments, and the session holds them with what is chosen
  pub committed_given : commit_or s s' new_or_prover side choice.nonce choice.challenge choice.response
      ≡ record {
        session = holding (instance_of s) (instance_of s') side choice.nonce choice.challenge choice.response;
        values0 = pad8 0 (first_commitment (instance_of s) side choice.nonce choice.challenge choice.response);
        values1 = pad8 0 (second_commitment (instance_of s') side choice.nonce choice.challenge choice.response);
        challenge0 = 0;
        refusal = 0;
      }
  unfolding holding
  committed_given =
      let k = sym (choice_read (instance_of (own side s s')) choice.nonce is.nonce) in
      let r = sym (choice_read (instance_of (other side s s')) choice.response is.response) in
      commit_or_given s s' new_or_prover side choice.nonce choice.challenge choice.response commit_runs choice.nonce
      choice.response k r
      ∙ ap (λ (number : ℕ). record {
        session =
            record {
              nonce = pad8 0 choice.nonce;
              response = pad8 0 choice.response;
              commitment0 = pad8 0 (first_commitment i side choice.nonce choice.challenge choice.response);
              commitment1 = pad8 0 (second_commitment j side choice.nonce choice.challenge choice.response);
              challenge = choice.challenge;
              side = number;
              phase = Committed;
            };
        values0 = pad8 0 (first_commitment i side choice.nonce choice.challenge choice.response);
        values1 = pad8 0 (second_commitment j side choice.nonce choice.challenge choice.response);
        challenge0 = 0;
        refusal = 0;
      }) (own_number side one)

  module _ (c : ℕ) (below : Below s c) (x : List ℕ) (witness : Witness (instance_of (own side s s')) x) where
    -- the witness is one of the side's sheet
    own_witness : Witness (own side (instance_of s) (instance_of s')) x
    own_witness = rw (own_instance side s s') witness

    -- responding in that session is not refused
    respond_holding : (respond_or s s' (holding (instance_of s) (instance_of s') side choice.nonce choice.challenge choice.response) c x).refusal
        ≡ 0
    unfolding respond_or responding_or holding
    respond_holding =
        let p = holding i j side choice.nonce choice.challenge choice.response in
        let mine = own side i j in
        let read : places mine.header.columns x ≡ x = choice_read mine x own_witness.slots in
        let call = responding_or i j p c x in
        ap (λ (step : OrStep). step.refusal)
        (on_pair_loads s s' call pair
        ∙ answer_clear call (
          (challenge_passes i c).1 below,
          (
            (coordinates_pass mine _).1 (choice_slots mine x own_witness.slots),
            (
              rw read ((witness_passes mine x).1 ((image_carried mine x).0 own_witness.carried)),
              (
                (both_fail (not (or_prover_in Committed p)) (unfit_or i j p)).1 (
                  ap not ((says_or_prover Committed p).complete refl),
                  held_fits (first_valid s s' pair) (second_valid s s' pair) side choice.nonce choice.challenge choice.response one
                      own_choice is.challenge other_choice,
                ),
                tt,
              ),
            ),
          ),
        ))

    -- nor in the session that committing hands back
    pub respond_runs : (respond_or s s'
        (commit_or s s' new_or_prover side choice.nonce choice.challenge choice.response).session c x).refusal ≡ 0
    respond_runs = ap (λ (step : OrStep). (respond_or s s' step.session c x).refusal) committed_given ∙ respond_holding

    -- the round that is made: of the own side the nonce's image and the response to the challenge that is left, of the other the
    -- simulated values
    pub round_given : (e : ℕ) (answer : List ℕ)
        → e ≡ other_challenge (instance_of s).header.challenges c choice.challenge
        → answer ≡ response (instance_of (own side s s')).header choice.nonce e x
        → or_round s s' side x c choice
        ≡ record {
          commitment0 = pad8 0 (first_commitment (instance_of s) side choice.nonce choice.challenge choice.response);
          commitment1 = pad8 0 (second_commitment (instance_of s') side choice.nonce choice.challenge choice.response);
          response0 = pad8 0 (own side answer choice.response);
          response1 = pad8 0 (own side choice.response answer);
          challenge = c;
          challenge0 = own side e choice.challenge;
        }
    unfolding or_round holding
    round_given e answer e_is answer_is =
        let mine = instance_of (own side s s') in
        let yours = instance_of (other side s s') in
        let nonce = sym (places_pad8 mine.header.columns choice.nonce ∙ choice_read mine choice.nonce is.nonce) in
        let reply = sym (places_pad8 yours.header.columns choice.response ∙ choice_read yours choice.response is.response) in
        let secret = sym (choice_read mine x witness.slots) in
        let given =
        respond_or_given s s' (holding i j side choice.nonce choice.challenge choice.response) c x respond_holding
        choice.nonce x choice.response answer e nonce secret reply e_is answer_is in
        rw (committed_given, given)
