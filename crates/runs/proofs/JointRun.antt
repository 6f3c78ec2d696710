-- Peggy and Vic together, for a witness x, a nonce k and a challenge c below K: no call is refused and Vic accepts.
-- Assumes nothing.
use Prim.Native.Nat.{ℕ, ◌<◌}
use mathlib.Core.Path.{◌≡◌, refl, ap, ◌∙◌}
use mathlib.Core.List.{List}
use native.Mathlib.Omega.{arith}
use lib.ListN.{length}
use Rattle.types.specs.declared.Prover.{Prover}
use Rattle.types.specs.declared.ProverPhase.TheVariants.{Committed, Answered}
use Rattle.types.specs.declared.ProverStep.{ProverStep}
use Rattle.types.specs.declared.Verdict.TheVariants.{Accepted}
use Rattle.types.specs.declared.Verifier.{Verifier}
use Rattle.types.specs.declared.VerifierPhase.{VerifierPhase}
use Rattle.types.specs.declared.VerifierPhase.TheVariants.{Holding, Asked, Judged}
use Rattle.types.specs.declared.VerifierStep.{VerifierStep}
use Rattle.types.specs.declared.VerifierVerdict.{VerifierVerdict}
use Rattle.lists.specs.Places.{pad8, places, zeros8}
use Rattle.lists.proofs.Each.{each_at}
use Rattle.lists.proofs.Places.{places_pad8, places_places, places_whole}
use Rattle.rules.specs.Call.{answer}
use Rattle.rules.proofs.Call.{answer_clear}
use Rattle.formats.specs.Load.{load_refusal}
use Rattle.formats.specs.Sheet.{instance_of}
use Rattle.formats.proofs.Loads.{loads_valid}
use Rattle.formats.proofs.OnSheet.{on_sheet_loads}
use Rattle.sigma.specs.Image.{image}
use Rattle.sigma.specs.Instance.{Instance, table_of}
use Rattle.sigma.specs.Knowledge.{Choice, Witness, honest_on}
use Rattle.sigma.specs.Meaning.{Coordinates, Elements, Fits}
use Rattle.sigma.specs.Reads.{round_of}
use Rattle.sigma.specs.Round.{response, verdict}
use Rattle.sigma.proofs.Calls.{valid_judge_accepted}
use Rattle.sigma.proofs.Prover.{honest_accepted}
use Rattle.sigma.proofs.Verdict.{verdict_accepted}
use Rattle.sigma.proofs.Values.{length_image, length_response}
use Rattle.runs.specs.JointRun.{JointRun}
use Rattle.runs.specs.Memory.{no_memory, listing}
use Rattle.runs.specs.OnSheet.{read_slots, Below}
use Rattle.runs.specs.Ours.{honest_round, run_calls}
use Rattle.runs.specs.Prover.{new_prover, commit, committing, respond, responding}
use Rattle.runs.specs.Verifier.{new_verifier, taking_commitment, taking_challenge, taking_response}
use Rattle.runs.specs.Verifier.{take_commitment, take_challenge, take_response}
use Rattle.runs.proofs.Memory.{none_listed, some_room}
use Rattle.runs.proofs.ProverSteps.{commit_clear, respond_clear}
use Rattle.runs.proofs.VerifierSteps.{take_commitment_clear, take_challenge_clear, take_response_clear}

-- n places of n places with zeros behind are those places
places_stored : (n : ℕ) (xs : List ℕ) → places n (pad8 0 (places n xs)) ≡ places n xs
places_stored n xs = places_pad8 n (places n xs) ∙ places_places n n xs (omega arith)

-- the places of a list of that length with zeros behind are the list
places_held : (n : ℕ) (xs : List ℕ) → length xs ≡ n → places n (pad8 0 xs) ≡ xs
places_held n xs e = places_pad8 n xs ∙ places_whole n xs e

-- what is read of a nonce or a witness
abbrev pub read_of : Instance → List ℕ → List ℕ
read_of inst x = places inst.header.columns x

-- each slot of a choice of n domain slots is a coordinate
slots_read : (inst : Instance) (x : List ℕ) → Choice inst (read_of inst x) → Coordinates inst (read_of inst x)
slots_read inst x = each_at _ _ (read_of inst x)

-- the commitment to the nonce k
abbrev pub commitment_of : Instance → List ℕ → List ℕ
commitment_of inst k = image (table_of inst) (read_of inst k)

-- the response to the challenge c, of the nonce k and the witness x
abbrev pub response_of : Instance → List ℕ → ℕ → List ℕ → List ℕ
response_of inst x c k = response inst.header (read_of inst k) c (read_of inst x)

-- Peggy's session once she has committed to k
abbrev pub prover_committed : Instance → List ℕ → Prover
prover_committed inst k =
    record { phase = Committed; nonce = pad8 0 (read_of inst k); commitment = pad8 0 (commitment_of inst k); memory = no_memory }

-- and once she has answered
abbrev pub prover_answered : Instance → List ℕ → Prover
prover_answered inst k =
    record {
      phase = Answered;
      nonce = zeros8;
      commitment = pad8 0 (commitment_of inst k);
      memory = listing (pad8 0 (commitment_of inst k)) no_memory;
    }

-- Vic's session in a state, with the commitment to k and a challenge
abbrev pub verifier_holding : VerifierPhase → Instance → List ℕ → ℕ → Verifier
verifier_holding phase inst k c = record { phase = phase; commitment = pad8 0 (commitment_of inst k); challenge = c }

-- ---- each call of the run

module _ (inst : Instance) (x k : List ℕ) (c : ℕ) where
  -- Peggy commits
  pub joint_commit : Choice inst (read_of inst k)
      → answer (committing inst new_prover k)
      ≡ record { refusal = 0; session = prover_committed inst k; values = pad8 0 (commitment_of inst k) }
  unfolding new_prover committing
  joint_commit nonce =
      answer_clear (committing inst new_prover k)
      ((commit_clear inst new_prover k).1 (record { nonce = slots_read inst k nonce; phase = refl }))

  -- Vic takes her commitment
  joint_commitment : Elements inst (commitment_of inst k)
      → answer (taking_commitment inst new_verifier (pad8 0 (commitment_of inst k)))
      ≡ record { refusal = 0; session = verifier_holding Holding inst k 0 }
  unfolding new_verifier taking_commitment
  joint_commitment elements =
      let t = places_held inst.header.rows (commitment_of inst k) (length_image (table_of inst) _) in
      answer_clear (taking_commitment inst new_verifier (pad8 0 (commitment_of inst k)))
      ((take_commitment_clear inst new_verifier _).1 (record { commitment = rw t elements; phase = refl }))
      ∙ rw t

  -- Vic takes the challenge
  joint_challenge : Elements inst (commitment_of inst k) → c < inst.header.challenges
      → answer (taking_challenge inst (verifier_holding Holding inst k 0) c)
      ≡ record { refusal = 0; session = verifier_holding Asked inst k c }
  unfolding taking_challenge
  joint_challenge elements below =
      let t = places_held inst.header.rows (commitment_of inst k) (length_image (table_of inst) _) in
      answer_clear (taking_challenge inst (verifier_holding Holding inst k 0) c)
      ((take_challenge_clear inst _ c).1 (record { challenge = below; phase = refl; held = rw t elements }))

  -- Peggy responds
  joint_response : Witness inst (read_of inst x) → Choice inst (read_of inst k) → c < inst.header.challenges
      → answer (responding inst (prover_committed inst k) c x)
      ≡ record {
        refusal = 0;
        session = prover_answered inst k;
        values = pad8 0 (response_of inst x c k);
      }
  unfolding responding
  joint_response witness nonce below =
      let stored = places_stored inst.header.columns k in
      answer_clear (responding inst (prover_committed inst k) c x)
      ((respond_clear inst (prover_committed inst k) c x).1 (record {
        challenge = below;
        witness = witness;
        phase = refl;
        nonce = rw stored (slots_read inst k nonce);
        commitment = λ j h. rw stored;
        unlisted = none_listed (pad8 0 (commitment_of inst k));
        room = some_room;
      }))
      ∙ rw stored

  -- Vic gives the verdict
  joint_verdict : Fits inst (round_of (commitment_of inst k) c (response_of inst x c k))
      → verdict inst (commitment_of inst k) c (response_of inst x c k) ≡ Accepted
      → answer (taking_response inst (verifier_holding Asked inst k c) (pad8 0 (response_of inst x c k)))
      ≡ record { verdict = Accepted; session = verifier_holding Judged inst k c }
  unfolding taking_response
  joint_verdict fits accepted =
      let t = places_held inst.header.rows (commitment_of inst k) (length_image (table_of inst) _) in
      let r = places_held inst.header.columns (response_of inst x c k) (length_response inst.header _ c _) in
      answer_clear (taking_response inst (verifier_holding Asked inst k c) (pad8 0 (response_of inst x c k)))
      ((take_response_clear inst (verifier_holding Asked inst k c) _).1 (record {
        response = rw r fits.response;
        ready = record { phase = refl; held = rw t fits.commitment; challenge = fits.challenge };
      }))
      ∙ rw (t, r, accepted)

-- ---- the run

-- what the five calls gave
pub record JointSteps : Type 0 where
  pub committed : ProverStep
  pub held : VerifierStep
  pub asked : VerifierStep
  pub answered : ProverStep
  pub told : VerifierVerdict

-- the calls for witness x, challenge c and nonce k
unfoldable pub joint_steps : List ℕ → List ℕ → ℕ → List ℕ → JointSteps
joint_steps sheet x c k =
    let committed : ProverStep = commit sheet new_prover k in
    let held : VerifierStep = take_commitment sheet new_verifier committed.values in
    let asked : VerifierStep = take_challenge sheet held.session c in
    let answered : ProverStep = respond sheet committed.session c x in
    record {
      committed = committed;
      held = held;
      asked = asked;
      answered = answered;
      told = take_response sheet asked.session answered.values;
    }

module _ (sheet : List ℕ) (loaded : load_refusal sheet ≡ 0) (x k : List ℕ) (c : ℕ)
    (witness : Witness (instance_of sheet) (read_slots sheet x)) (nonce : Choice (instance_of sheet) (read_slots sheet k))
    (below : Below sheet c) where
  -- what each call gives, for a witness, a nonce of domain slots and a challenge below K
  pub joint_steps_law : joint_steps sheet x c k
      ≡ record {
        committed =
            record {
              refusal = 0;
              session = prover_committed (instance_of sheet) k;
              values = pad8 0 (commitment_of (instance_of sheet) k);
            };
        held = record { refusal = 0; session = verifier_holding Holding (instance_of sheet) k 0 };
        asked = record { refusal = 0; session = verifier_holding Asked (instance_of sheet) k c };
        answered =
            record {
              refusal = 0;
              session = prover_answered (instance_of sheet) k;
              values = pad8 0 (response_of (instance_of sheet) x c k);
            };
        told = record { verdict = Accepted; session = verifier_holding Judged (instance_of sheet) k c };
      }
  unfolding joint_steps commit respond take_commitment take_challenge take_response honest_on
  joint_steps_law =
      let inst = instance_of sheet in
      let valid = loads_valid sheet loaded in
      let accepted = honest_accepted valid (read_of inst x) witness c below (read_of inst k) nonce in
      let (fits, holds) = (valid_judge_accepted inst (round_of (commitment_of inst k) c (response_of inst x c k)) valid).0 accepted in
      let verdict_is = (verdict_accepted inst (commitment_of inst k) c (response_of inst x c k)).1 holds in
      rw (
        on_sheet_loads sheet (committing inst new_prover k) loaded,
        joint_commit inst x k c nonce,
        on_sheet_loads sheet (taking_commitment inst new_verifier (pad8 0 (commitment_of inst k))) loaded,
        joint_commitment inst x k c fits.commitment,
        on_sheet_loads sheet (taking_challenge inst (verifier_holding Holding inst k 0) c) loaded,
        joint_challenge inst x k c fits.commitment below,
        on_sheet_loads sheet (responding inst (prover_committed inst k) c x) loaded,
        joint_response inst x k c witness nonce below,
        on_sheet_loads sheet (taking_response inst (verifier_holding Asked inst k c) (pad8 0 (response_of inst x c k))) loaded,
        joint_verdict inst x k c fits verdict_is,
      )

  -- none of the calls is refused, and Vic accepts
  pub sheet_joint_run : JointRun run_calls sheet x c k
  unfolding joint_steps honest_round
  sheet_joint_run = record {
    committed = ap (λ (steps : JointSteps). steps.committed.refusal) joint_steps_law;
    held = ap (λ (steps : JointSteps). steps.held.refusal) joint_steps_law;
    challenged = ap (λ (steps : JointSteps). steps.asked.refusal) joint_steps_law;
    responded = ap (λ (steps : JointSteps). steps.answered.refusal) joint_steps_law;
    accepted = ap (λ (steps : JointSteps). steps.told.verdict) joint_steps_law;
  }
