-- Any list of calls on one of Peggy's sessions (01, "Sessions"; 02, card 13).
-- Assumes nothing.
use Rattle.std.specs.Prelude.{ℕ, suc, ◌<◌, ◌≡◌, ◌⊎◌, ◌≢◌, length, set}
use mathlib.Core.List.{List, [], ◌∷◌, flat_map, map}
use Rattle.types.specs.declared.Prover.{Prover}
use Rattle.types.specs.declared.ProverPhase.{ProverPhase}
use Rattle.types.specs.declared.ProverPhase.TheVariants.{New, Committed, Answered, Dropped}
use Rattle.types.specs.declared.ProverStep.{ProverStep}
use Rattle.lists.specs.Member.{Member}
use Rattle.lists.specs.Places.{pad8, places, zeros8}
use Rattle.runs.specs.Memory.{saved_at}
use Rattle.runs.specs.OnSheet.{read_slots}
use Rattle.runs.specs.Prover.{prover_state}
use Rattle.runs.specs.Run.{session_after, trace}
use Rattle.runs.specs.RunCalls.{RunCalls}
use Rattle.runs.specs.Saving.{prover_phase}

-- a call with what it brings: a sheet and a nonce, a sheet, a challenge and a witness, nothing, or a name
pub data ProverCall : Type 0 where
  Commit : List ℕ → List ℕ → ProverCall
  Respond : List ℕ → ℕ → List ℕ → ProverCall
  Drop : ProverCall
  Save : ℕ → ProverCall
  Return : ℕ → ProverCall

module _ (code : RunCalls) where
  open code use {commit, respond, drop_session, save, return_to}

  -- what a call on a session gives
  abbrev pub call_prover : ProverCall → Prover → ProverStep
  call_prover (Commit sheet nonce) p = commit sheet p nonce
  call_prover (Respond sheet c witness) p = respond sheet p c witness
  call_prover Drop p = drop_session p
  call_prover (Save name) p = save p name
  call_prover (Return name) p = return_to p name

  -- the session after a list of calls
  abbrev pub prover_after : List ProverCall → Prover → Prover
  prover_after calls p = session_after call_prover (λ step. step.session) calls p

  -- the calls of a list that are carried out, each with what it answered
  abbrev pub prover_trace : List ProverCall → Prover → List (ProverCall × ProverStep)
  prover_trace calls p = trace call_prover (λ step. step.session) (λ step. step.refusal) calls p

-- in which state a call is carried out, and what it hands back: committing leads from New to Committed with the nonce and the
-- commitment that it answers, responding from Committed to Answered and dropping from either to Dropped, with a nonce of zeros.
-- Responding lists the commitment, behind those that are listed. In every state, saving keeps the state, nonce and commitment under a
-- name from 0 to 7, and returning brings those of a saved name back; neither changes anything else
abbrev pub ProverMoves : Prover → ProverCall → ProverStep → Type 0
ProverMoves p (Commit sheet nonce) step =
    (p.phase ≡ New) ×
    (step.session
    ≡ record { phase = Committed; nonce = pad8 0 (read_slots sheet nonce); commitment = step.values; memory = p.memory })
ProverMoves p (Respond sheet c witness) step =
    (p.phase ≡ Committed) ×
    (step.session
    ≡ record {
      phase = Answered;
      nonce = zeros8;
      commitment = p.commitment;
      memory =
          record {
            saved = p.memory.saved;
            answered = set p.memory.answered p.memory.count (record { commitment = p.commitment });
            count = suc p.memory.count;
          };
    })
ProverMoves p Drop step =
    ((p.phase ≡ New) ⊎ (p.phase ≡ Committed)) ×
    (step.session ≡ record { phase = Dropped; nonce = zeros8; commitment = p.commitment; memory = p.memory }) ×
    (step.values ≡ zeros8)
ProverMoves p (Save name) step =
    (name < 8) ×
    (step.session
    ≡ record {
      phase = p.phase;
      nonce = p.nonce;
      commitment = p.commitment;
      memory =
          record {
            saved =
                set p.memory.saved name
                (record { nonce = p.nonce; commitment = p.commitment; phase = prover_state p.phase; kept = 1 });
            answered = p.memory.answered;
            count = p.memory.count;
          };
    }) ×
    (step.values ≡ zeros8)
ProverMoves p (Return name) step =
    ((name < 8) × ((saved_at p.memory name).kept ≢ 0)) ×
    (step.session
    ≡ record {
      phase = prover_phase (saved_at p.memory name).phase;
      nonce = (saved_at p.memory name).nonce;
      commitment = (saved_at p.memory name).commitment;
      memory = p.memory;
    }) ×
    (step.values ≡ zeros8)

-- the challenges that a call brings: one if it is responding, else none
abbrev pub challenges_of : ProverCall → List ℕ
challenges_of (Commit sheet nonce) = []
challenges_of (Respond sheet c witness) = c ∷ []
challenges_of Drop = []
challenges_of (Save name) = []
challenges_of (Return name) = []

-- the commitments that the calls of a trace answered, in all eight places: the session that responding hands back holds it
unfoldable pub answered_on : List (ProverCall × ProverStep) → List (List ℕ)
answered_on steps = flat_map (λ step. map (λ c. places 8 step.1.session.commitment) (challenges_of step.0)) steps

-- no call of a list returns
abbrev pub NoneReturns : List ProverCall → Type 0
NoneReturns calls = (name : ℕ) → ¬ Member (Return name) calls

-- there are eight names and 64 places in the list, as in every session: its arrays have this length
abbrev pub Shaped : Prover → Type 0
Shaped p = (length p.memory.saved ≡ 8) × (length p.memory.answered ≡ 64)

-- the state is Answered or Dropped
abbrev pub Ended : ProverPhase → Type 0
Ended phase = (phase ≡ Answered) ⊎ (phase ≡ Dropped)

-- two sessions have the same state, nonce and commitment
abbrev pub SameState : Prover → Prover → Type 0
SameState p q = (q.phase ≡ p.phase) × (q.nonce ≡ p.nonce) × (q.commitment ≡ p.commitment)
