-- One call on Peggy's session, whatever it brings: a refused call leaves the session, and each other call moves it as 01 says.
-- Assumes nothing.
use Prim.Native.Nat.{ℕ, ◌<◌, ◌-◌, min}
use mathlib.Core.Path.{◌≡◌, refl, sym, ap, ◌∙◌}
use mathlib.Core.Logic.{◌⊎◌, inl, inr}
use native.Mathlib.Omega.{arith}
use Rattle.types.specs.declared.Prover.{Prover}
use Rattle.types.specs.declared.ProverPhase.{ProverPhase}
use Rattle.types.specs.declared.ProverPhase.TheVariants.{New, Committed}
use Rattle.types.specs.declared.ProverStep.{ProverStep}
use Rattle.lists.specs.Places.{zeros8}
use Rattle.rules.specs.Call.{Call, answer, number_of}
use Rattle.rules.proofs.Call.{answer_number, answer_refused, answer_value}
use Rattle.formats.specs.Load.{on_sheet}
use Rattle.formats.specs.Sheet.{instance_of}
use Rattle.runs.specs.Ours.{call_prover}
use Rattle.runs.specs.Memory.{listing}
use Rattle.runs.specs.Prover.{commit, committing, drop_session, dropping, handed_back, respond, responding, prover_state}
use Rattle.runs.specs.ProverCalls.{ProverCall, Commit, Respond, Drop, Save, Return, ProverMoves, Ended}
use Rattle.runs.specs.Saving.{brought_back, keeping, return_to, returning, save, saved_state, saving}
use Rattle.runs.proofs.ProverSteps.{commit_runs, drop_runs, respond_runs, return_runs, save_runs}
use Rattle.runs.proofs.Run.{Machine}

-- ---- the calls as records

-- what a call asks, answers and hands back
abbrev pub prover_call : ProverCall → Prover → Call ProverStep
prover_call (Commit sheet nonce) p = on_sheet sheet (committing (instance_of sheet) p nonce)
prover_call (Respond sheet c witness) p = on_sheet sheet (responding (instance_of sheet) p c witness)
prover_call Drop p = dropping p
prover_call (Save name) p = saving p name
prover_call (Return name) p = returning p name

-- it is the call of the list, its value has the number 0, and refused it hands back the session
prover_form : (call : ProverCall) (p : Prover) → (call_prover call p ≡ answer (prover_call call p))
    × ((prover_call call p).value.refusal ≡ 0) × ((n : ℕ) → (prover_call call p).refused n ≡ handed_back p n)
unfolding call_prover commit respond drop_session save return_to committing responding dropping saving returning
prover_form (Commit sheet nonce) p = (refl, refl, λ n. refl)
prover_form (Respond sheet c witness) p = (refl, refl, λ n. refl)
prover_form Drop p = (refl, refl, λ n. refl)
prover_form (Save name) p = (refl, refl, λ n. refl)
prover_form (Return name) p = (refl, refl, λ n. refl)

module _ (call : ProverCall) (p : Prover) where
  -- the number of the answer is the call's
  pub prover_number : (call_prover call p).refusal ≡ number_of (prover_call call p)
  prover_number =
      let (is, zero, back) = prover_form call p in
      ap (λ (step : ProverStep). step.refusal) is
      ∙ answer_number (prover_call call p) (λ step. step.refusal) zero (λ n. ap (λ (step : ProverStep). step.refusal) (back n))

  -- a call that is not refused answers its value
  pub prover_value : (call_prover call p).refusal ≡ 0 → call_prover call p ≡ (prover_call call p).value
  prover_value e = (prover_form call p).0 ∙ answer_value (prover_call call p) (rw prover_number at e)

  -- a refused call answers its number, the same session and zeros
  pub prover_kept : 0 < (call_prover call p).refusal
      → call_prover call p ≡ record { refusal = (call_prover call p).refusal; session = p; values = zeros8 }
  prover_kept some =
      (prover_form call p).0
      ∙ answer_refused (prover_call call p) (rw prover_number at some)
      ∙ (prover_form call p).2 _
      ∙ ap (handed_back p) (sym prover_number)

-- ---- a call that is not refused

-- it moves the session as 01 and card 13 say
pub prover_moves : (call : ProverCall) (p : Prover) → (call_prover call p).refusal ≡ 0 → ProverMoves p call (call_prover call p)
unfolding call_prover committing responding dropping saving returning listing keeping saved_state brought_back
prover_moves (Commit sheet nonce) p e =
    (((commit_runs sheet p nonce).0 e).1.phase, rw (prover_value (Commit sheet nonce) p e))
prover_moves (Respond sheet c witness) p e = (
  ((respond_runs sheet p c witness).0 e).1.phase,
  ap (λ (step : ProverStep). step.session) (prover_value (Respond sheet c witness) p e),
)
prover_moves Drop p e =
    let given = prover_value Drop p e in
    ((drop_runs p).0 e, ap (λ (step : ProverStep). step.session) given, ap (λ (step : ProverStep). step.values) given)
prover_moves (Save name) p e =
    let given = prover_value (Save name) p e in
    ((save_runs p name).0 e, ap (λ (step : ProverStep). step.session) given, ap (λ (step : ProverStep). step.values) given)
prover_moves (Return name) p e =
    let given = prover_value (Return name) p e in
    ((return_runs p name).0 e, ap (λ (step : ProverStep). step.session) given, ap (λ (step : ProverStep). step.values) given)

-- the calls on Peggy's session, and how they move it
abbrev pub peggy : Machine ProverCall Prover ProverStep
peggy = record {
  answer = call_prover;
  session = λ step. step.session;
  refusal = λ step. step.refusal;
  Moves = ProverMoves;
  kept = λ call p refused. ap (λ (step : ProverStep). step.session) (prover_kept call p refused);
  moves = prover_moves;
}

-- ---- a session that is Answered or Dropped

-- an Answered or Dropped session is neither New nor Committed
pub ended_apart : (phase : ProverPhase) → Ended phase → (phase ≡ New) ⊎ (phase ≡ Committed) → ⊥
ended_apart phase (inl a) (inl b) = let z : ◌≡◌ {A = ℕ} 0 1 = cc in omega arith
ended_apart phase (inl a) (inr b) = let z : ◌≡◌ {A = ℕ} 0 1 = cc in omega arith
ended_apart phase (inr a) (inl b) = let z : ◌≡◌ {A = ℕ} 0 1 = cc in omega arith
ended_apart phase (inr a) (inr b) = let z : ◌≡◌ {A = ℕ} 0 1 = cc in omega arith

-- how many challenges a session in a state can still answer, if no call returns: one in New and Committed, else none
unfoldable pub left : ProverPhase → ℕ
left phase = min 1 (2 - prover_state phase)

-- a call that neither saves nor returns
abbrev pub Steps : ProverCall → Type 0
Steps (Commit sheet nonce) = Unit {0}
Steps (Respond sheet c witness) = Unit {0}
Steps Drop = Unit {0}
Steps (Save name) = ⊥
Steps (Return name) = ⊥

-- no such call moves a session that has ended
pub ended_unmoved : (p : Prover) (call : ProverCall) (step : ProverStep) → Steps call → Ended p.phase → ProverMoves p call step → ⊥
ended_unmoved p (Commit sheet nonce) step steps ended moves = ended_apart p.phase ended (inl moves.0)
ended_unmoved p (Respond sheet c witness) step steps ended moves = ended_apart p.phase ended (inr moves.0)
ended_unmoved p Drop step steps ended moves = ended_apart p.phase ended moves.0
ended_unmoved p (Save name) step steps ended moves = steps
ended_unmoved p (Return name) step steps ended moves = steps
