-- What each call on Vic's session does (01, "Sessions"): when it is not refused, what it then gives, and that a refused call
-- hands back the same session.
-- Assumes nothing.
use Prim.Native.Nat.{ℕ, ◌<◌}
use mathlib.Core.Path.{◌≡◌, refl}
use mathlib.Core.Logic.Iff
use mathlib.Core.Logic.{◌↔◌}
use mathlib.Core.Bool.{false, not, ◌||◌}
use mathlib.Core.List.{List}
use Rattle.types.specs.declared.Verdict.TheVariants.{Refused}
use Rattle.types.specs.declared.Verifier.{Verifier}
use Rattle.types.specs.declared.VerifierPhase.TheVariants.{Waiting, Holding, Asked}
use Rattle.lists.specs.Places.{places}
use Rattle.rules.specs.Rule.{Clear}
use Rattle.rules.proofs.Told.{told_after, told_refused, told_value}
use Rattle.formats.specs.Load.{load_refusal, load_rules, on_sheet}
use Rattle.formats.specs.Sheet.{instance_of}
use Rattle.formats.proofs.Positive.{load_positive}
use Rattle.sigma.specs.Answer.{outcome}
use Rattle.sigma.specs.Instance.{Instance}
use Rattle.sigma.specs.Meaning.{Elements}
use Rattle.sigma.specs.Round.{bad_challenge}
use Rattle.sigma.proofs.Calculus.{says_passes, both_fail}
use Rattle.sigma.proofs.Passed.{challenge_passes, commitment_passes, coordinates_pass}
use Rattle.sigma.proofs.Verdict.{verdict_not_refused}
use Rattle.runs.specs.Meaning.{TakesCommitment, TakesChallenge, ReadyToJudge, TakesResponse}
use Rattle.runs.specs.OnSheet.{read_slots, read_values}
use Rattle.runs.specs.Verifier.{take_challenge, take_commitment, take_response, taking_challenge, taking_commitment, taking_response}
use Rattle.runs.specs.Verifier.{unfit_commitment, verifier_in}
use Rattle.runs.proofs.Outcome.{decided_number}
use Rattle.runs.proofs.Tests.{says_verifier}

-- ---- when no refusal of a call applies

-- the commitment call
pub take_commitment_clear : (inst : Instance) (v : Verifier) (commitment : List ℕ)
    → Clear (taking_commitment inst v commitment).refusals ↔ TakesCommitment inst v (places inst.header.rows commitment)
unfolding taking_commitment
take_commitment_clear inst v commitment =
    let elements = commitment_passes inst (places inst.header.rows commitment) in
    let phase = says_passes (says_verifier Waiting v) in (
      λ (a, (b, none)). record { commitment = elements.0 a; phase = phase.0 b },
      λ x. (elements.1 x.commitment, (phase.1 x.phase, tt)),
    )

-- the commitment that Vic holds fits
unfit_passes : (inst : Instance) (v : Verifier) → (unfit_commitment inst v ≡ false)
    ↔ Elements inst (places inst.header.rows v.commitment)
unfolding unfit_commitment
unfit_passes inst v = commitment_passes inst _

-- the challenge call
pub take_challenge_clear : (inst : Instance) (v : Verifier) (c : ℕ)
    → Clear (taking_challenge inst v c).refusals ↔ TakesChallenge inst v c
unfolding taking_challenge
take_challenge_clear inst v c =
    let below = challenge_passes inst c in
    let state = both_fail (not (verifier_in Holding v)) (unfit_commitment inst v) in
    let phase = says_passes (says_verifier Holding v) in
    let held = unfit_passes inst v in (
      λ (a, (b, none)). record { challenge = below.0 a; phase = phase.0 (state.0 b).0; held = held.0 (state.0 b).1 },
      λ x. (below.1 x.challenge, (state.1 (phase.1 x.phase, held.1 x.held), tt)),
    )

-- not 21: Vic is Asked, and what he holds fits
pub ready_passes : (inst : Instance) (v : Verifier)
    → ((not (verifier_in Asked v) || unfit_commitment inst v || bad_challenge inst v.challenge) ≡ false) ↔ ReadyToJudge inst v
ready_passes inst v =
    let all = both_fail (not (verifier_in Asked v) || unfit_commitment inst v) (bad_challenge inst v.challenge) in
    let state = both_fail (not (verifier_in Asked v)) (unfit_commitment inst v) in
    let phase = says_passes (says_verifier Asked v) in
    let held = unfit_passes inst v in
    let below = challenge_passes inst v.challenge in (
      λ b. record {
        phase = phase.0 (state.0 (all.0 b).0).0;
        held = held.0 (state.0 (all.0 b).0).1;
        challenge = below.0 (all.0 b).1;
      },
      λ x. all.1 (state.1 (phase.1 x.phase, held.1 x.held), below.1 x.challenge),
    )

-- the response call
pub take_response_clear : (inst : Instance) (v : Verifier) (response : List ℕ)
    → Clear (taking_response inst v response).refusals ↔ TakesResponse inst v (places inst.header.columns response)
unfolding taking_response
take_response_clear inst v response =
    let slots = coordinates_pass inst (places inst.header.columns response) in
    let ready = ready_passes inst v in (
      λ (a, (b, none)). record { response = slots.0 a; ready = ready.0 b },
      λ x. (slots.1 x.response, (ready.1 x.ready, tt)),
    )

-- the verdict on a response is no refusal
pub response_number : (inst : Instance) (v : Verifier) (response : List ℕ)
    → (outcome (taking_response inst v response).value.verdict).number ≡ 0
unfolding taking_response
response_number inst v response = decided_number _ (verdict_not_refused inst _ _ _)

module _ (sheet : List ℕ) (v : Verifier) where
  -- ---- the commitment

  -- it is taken exactly in Waiting, if it is of group elements
  pub take_commitment_runs : (t : List ℕ)
      → ((take_commitment sheet v t).refusal ≡ 0) ↔ ((load_refusal sheet ≡ 0) × TakesCommitment (instance_of sheet) v (read_values sheet t))
  unfolding take_commitment taking_commitment load_refusal
  take_commitment_runs t =
      Iff.trans (told_after (taking_commitment (instance_of sheet) v t) (λ step. step.refusal) refl (λ n. refl)
      (load_rules sheet) (load_positive sheet) tt)
      (Iff.and Iff.rfl (take_commitment_clear (instance_of sheet) v t))

  -- then it is stored
  pub take_commitment_value : (t : List ℕ) → (take_commitment sheet v t).refusal ≡ 0
      → take_commitment sheet v t ≡ (taking_commitment (instance_of sheet) v t).value
  unfolding take_commitment taking_commitment
  take_commitment_value t =
      told_value (on_sheet sheet (taking_commitment (instance_of sheet) v t)) (λ step. step.refusal) refl (λ n. refl)

  -- a refused call leaves the session
  pub take_commitment_kept : (t : List ℕ) → 0 < (take_commitment sheet v t).refusal
      → take_commitment sheet v t ≡ record { refusal = (take_commitment sheet v t).refusal; session = v }
  unfolding take_commitment taking_commitment
  take_commitment_kept t =
      told_refused (on_sheet sheet (taking_commitment (instance_of sheet) v t)) (λ step. step.refusal) refl (λ n. refl)

  -- ---- the challenge

  -- it is taken exactly in Holding, with a held commitment that fits, if it is below K
  pub take_challenge_runs : (c : ℕ)
      → ((take_challenge sheet v c).refusal ≡ 0) ↔ ((load_refusal sheet ≡ 0) × TakesChallenge (instance_of sheet) v c)
  unfolding take_challenge taking_challenge load_refusal
  take_challenge_runs c =
      Iff.trans (told_after (taking_challenge (instance_of sheet) v c) (λ step. step.refusal) refl (λ n. refl)
      (load_rules sheet) (load_positive sheet) tt)
      (Iff.and Iff.rfl (take_challenge_clear (instance_of sheet) v c))

  -- then it is stored
  pub take_challenge_value : (c : ℕ) → (take_challenge sheet v c).refusal ≡ 0
      → take_challenge sheet v c ≡ (taking_challenge (instance_of sheet) v c).value
  unfolding take_challenge taking_challenge
  take_challenge_value c =
      told_value (on_sheet sheet (taking_challenge (instance_of sheet) v c)) (λ step. step.refusal) refl (λ n. refl)

  -- a refused call leaves the session
  pub take_challenge_kept : (c : ℕ) → 0 < (take_challenge sheet v c).refusal
      → take_challenge sheet v c ≡ record { refusal = (take_challenge sheet v c).refusal; session = v }
  unfolding take_challenge taking_challenge
  take_challenge_kept c =
      told_refused (on_sheet sheet (taking_challenge (instance_of sheet) v c)) (λ step. step.refusal) refl (λ n. refl)

  -- ---- the response

  module _ (r : List ℕ) where
    -- a verdict is given exactly in Asked, with held values that fit, for a response of domain slots
    pub take_response_runs : ((outcome (take_response sheet v r).verdict).number ≡ 0)
        ↔ ((load_refusal sheet ≡ 0) × TakesResponse (instance_of sheet) v (read_slots sheet r))
    unfolding take_response taking_response load_refusal outcome
    take_response_runs =
        Iff.trans (told_after (taking_response (instance_of sheet) v r) (λ told. (outcome told.verdict).number)
        (response_number (instance_of sheet) v r) (λ n. refl) (load_rules sheet) (load_positive sheet) tt)
        (Iff.and Iff.rfl (take_response_clear (instance_of sheet) v r))

    -- then it is that on the held commitment and challenge and the response
    pub take_response_value : (outcome (take_response sheet v r).verdict).number ≡ 0
        → take_response sheet v r ≡ (taking_response (instance_of sheet) v r).value
    unfolding take_response taking_response outcome
    take_response_value =
        told_value (on_sheet sheet (taking_response (instance_of sheet) v r)) (λ told. (outcome told.verdict).number)
        (response_number (instance_of sheet) v r) (λ n. refl)

    -- a refused call leaves the session
    pub take_response_kept : 0 < (outcome (take_response sheet v r).verdict).number
        → take_response sheet v r ≡ record { verdict = Refused (outcome (take_response sheet v r).verdict).number; session = v }
    unfolding take_response taking_response outcome
    take_response_kept =
        told_refused (on_sheet sheet (taking_response (instance_of sheet) v r)) (λ told. (outcome told.verdict).number)
        (response_number (instance_of sheet) v r) (λ n. refl)
