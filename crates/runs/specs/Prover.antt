-- Peggy's session (01, "Sessions"; refusals 15 to 17, 21, 32 and 33). Each call hands back the session with some fields changed.
-- Saving it and returning to what was saved stand in Saving.
-- Assumes nothing.
use Rattle.std.specs.Prelude.{ℕ, Bool, not, ◌||◌, List, [], ◌∷◌, eqb}
use Rattle.types.specs.declared.Prover.{Prover}
use Rattle.types.specs.declared.ProverPhase.{ProverPhase}
use Rattle.types.specs.declared.ProverPhase.TheVariants.{New, Committed, Answered, Dropped}
use Rattle.types.specs.declared.ProverStep.{ProverStep}
use Rattle.lists.specs.Places.{pad8, places, zeros8}
use Rattle.rules.specs.Call.{Call, answer}
use Rattle.rules.specs.Rule.{◌when◌}
use Rattle.formats.specs.Load.{on_sheet}
use Rattle.formats.specs.Sheet.{instance_of}
use Rattle.sigma.specs.Comparison.{differ}
use Rattle.sigma.specs.Image.{image}
use Rattle.sigma.specs.Instance.{Instance, table_of}
use Rattle.sigma.specs.Round.{bad_challenge, bad_coordinates, bad_witness, response}
use Rattle.runs.specs.Memory.{is_full, is_listed, listing, no_memory}

-- a state's place in 01's sentence, from 0
unfoldable pub prover_state : ProverPhase → ℕ
prover_state New = 0
prover_state Committed = 1
prover_state Answered = 2
prover_state Dropped = 3

-- whether a session is in a state
unfoldable pub prover_in : ProverPhase → Prover → Bool
prover_in state p = eqb (prover_state p.phase) (prover_state state)

-- a new session holds zeros, and has saved and listed nothing
unfoldable pub new_prover : Prover
new_prover = record { phase = New; nonce = zeros8; commitment = zeros8; memory = no_memory }

-- a refused call: its number, the session as it was and zeros
abbrev pub handed_back : Prover → ℕ → ProverStep
handed_back p n = record { refusal = n; session = p; values = zeros8 }

-- committing to a nonce, read in n places: 16 and 21, else the nonce and its image are stored, and the image is answered
unfoldable pub committing : Instance → Prover → List ℕ → Call ProverStep
committing inst p nonce =
    let k : List ℕ = places inst.header.columns nonce in
    let t : List ℕ = pad8 0 (image (table_of inst) k) in
    record {
      refusals = (16 when bad_coordinates inst k) ∷ (21 when not (prover_in New p)) ∷ [];
      value =
          record {
            refusal = 0;
            session = record { phase = Committed; nonce = pad8 0 k; commitment = t; memory = p.memory };
            values = t;
          };
      refused = handed_back p;
    }

-- the held nonce has a slot that is no domain slot, or its image, 0 beyond s, is not the held commitment in all eight places
unfoldable pub unfit_prover : Instance → Prover → Bool
unfit_prover inst p =
    let k : List ℕ = places inst.header.columns p.nonce in
    bad_coordinates inst k || differ 8 (pad8 0 (image (table_of inst) k)) p.commitment

-- responding to a challenge with a witness, read in n places: 15 to 17, 21, 32 and 33, else the response is answered, the nonce set
-- to zeros and the commitment listed
unfoldable pub responding : Instance → Prover → ℕ → List ℕ → Call ProverStep
responding inst p c witness =
    let x : List ℕ = places inst.header.columns witness in
    record {
      refusals =
          (15 when bad_challenge inst c) ∷
          (16 when bad_coordinates inst x) ∷
          (17 when bad_witness inst x) ∷
          (21 when (not (prover_in Committed p) || unfit_prover inst p)) ∷
          (32 when is_listed p.memory p.commitment) ∷
          (33 when is_full p.memory) ∷ [];
      value =
          record {
            refusal = 0;
            session =
                record {
                  phase = Answered;
                  nonce = zeros8;
                  commitment = p.commitment;
                  memory = listing p.commitment p.memory;
                };
            values = pad8 0 (response inst.header (places inst.header.columns p.nonce) c x);
          };
      refused = handed_back p;
    }

-- dropping, which takes no sheet: 21, else the nonce is set to zeros
unfoldable pub dropping : Prover → Call ProverStep
dropping p =
    record {
      refusals = (21 when not (prover_in New p || prover_in Committed p)) ∷ [];
      value =
          record {
            refusal = 0;
            session = record { phase = Dropped; nonce = zeros8; commitment = p.commitment; memory = p.memory };
            values = zeros8;
          };
      refused = handed_back p;
    }

-- the call that commits to a nonce
unfoldable pub commit : List ℕ → Prover → List ℕ → ProverStep
commit sheet p nonce = answer (on_sheet sheet (committing (instance_of sheet) p nonce))

-- the call that responds to a challenge
unfoldable pub respond : List ℕ → Prover → ℕ → List ℕ → ProverStep
respond sheet p c witness = answer (on_sheet sheet (responding (instance_of sheet) p c witness))

-- the call that drops a session
unfoldable pub drop_session : Prover → ProverStep
drop_session p = answer (dropping p)
