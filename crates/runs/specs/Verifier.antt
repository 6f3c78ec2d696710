-- Vic's session (01, "Sessions"; refusals 14 to 16 and 21). Each call hands back the session with some fields changed.
-- Assumes nothing.
use Rattle.std.specs.Prelude.{ℕ, Bool, not, ◌||◌, List, [], ◌∷◌, eqb}
use Rattle.types.specs.declared.Verdict.TheVariants.{Refused}
use Rattle.types.specs.declared.Verifier.{Verifier}
use Rattle.types.specs.declared.VerifierPhase.{VerifierPhase}
use Rattle.types.specs.declared.VerifierPhase.TheVariants.{Waiting, Holding, Asked, Judged}
use Rattle.types.specs.declared.VerifierStep.{VerifierStep}
use Rattle.types.specs.declared.VerifierVerdict.{VerifierVerdict}
use Rattle.lists.specs.Places.{pad8, places, zeros8}
use Rattle.rules.specs.Call.{Call, answer}
use Rattle.rules.specs.Rule.{◌when◌}
use Rattle.formats.specs.Load.{on_sheet}
use Rattle.formats.specs.Sheet.{instance_of}
use Rattle.sigma.specs.Instance.{Instance}
use Rattle.sigma.specs.Round.{bad_challenge, bad_commitment, bad_coordinates, verdict}

-- a state's place in 01's sentence, from 0
unfoldable pub verifier_state : VerifierPhase → ℕ
verifier_state Waiting = 0
verifier_state Holding = 1
verifier_state Asked = 2
verifier_state Judged = 3

-- whether a session is in a state
unfoldable pub verifier_in : VerifierPhase → Verifier → Bool
verifier_in state v = eqb (verifier_state v.phase) (verifier_state state)

-- a new session holds zeros
unfoldable pub new_verifier : Verifier
new_verifier = record { phase = Waiting; commitment = zeros8; challenge = 0 }

-- the held commitment, read in s places, has a value that is no group element
unfoldable pub unfit_commitment : Instance → Verifier → Bool
unfit_commitment inst v = bad_commitment inst (places inst.header.rows v.commitment)

-- taking a commitment, read in s places: 14 and 21, else it is stored
unfoldable pub taking_commitment : Instance → Verifier → List ℕ → Call VerifierStep
taking_commitment inst v commitment =
    let t : List ℕ = places inst.header.rows commitment in
    record {
      refusals = (14 when bad_commitment inst t) ∷ (21 when not (verifier_in Waiting v)) ∷ [];
      value =
          record { refusal = 0; session = record { phase = Holding; commitment = pad8 0 t; challenge = v.challenge } };
      refused = λ n. record { refusal = n; session = v };
    }

-- taking a challenge: 15 and 21, else it is stored
unfoldable pub taking_challenge : Instance → Verifier → ℕ → Call VerifierStep
taking_challenge inst v c =
    record {
      refusals = (15 when bad_challenge inst c) ∷ (21 when (not (verifier_in Holding v) || unfit_commitment inst v)) ∷ [];
      value = record { refusal = 0; session = record { phase = Asked; commitment = v.commitment; challenge = c } };
      refused = λ n. record { refusal = n; session = v };
    }

-- taking a response, read in n places: 16 and 21, else the verdict on it and the held commitment and challenge; it is not stored
unfoldable pub taking_response : Instance → Verifier → List ℕ → Call VerifierVerdict
taking_response inst v response =
    let r : List ℕ = places inst.header.columns response in
    record {
      refusals =
          (16 when bad_coordinates inst r) ∷
          (21 when (not (verifier_in Asked v) || unfit_commitment inst v || bad_challenge inst v.challenge)) ∷ [];
      value =
          record {
            verdict = verdict inst (places inst.header.rows v.commitment) v.challenge r;
            session = record { phase = Judged; commitment = v.commitment; challenge = v.challenge };
          };
      refused = λ n. record { verdict = Refused n; session = v };
    }

-- the call that brings the commitment
unfoldable pub take_commitment : List ℕ → Verifier → List ℕ → VerifierStep
take_commitment sheet v commitment = answer (on_sheet sheet (taking_commitment (instance_of sheet) v commitment))

-- the call that brings the challenge
unfoldable pub take_challenge : List ℕ → Verifier → ℕ → VerifierStep
take_challenge sheet v c = answer (on_sheet sheet (taking_challenge (instance_of sheet) v c))

-- the call that brings the response
unfoldable pub take_response : List ℕ → Verifier → List ℕ → VerifierVerdict
take_response sheet v response = answer (on_sheet sheet (taking_response (instance_of sheet) v response))
