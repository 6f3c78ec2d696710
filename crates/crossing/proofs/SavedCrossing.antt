-- What 02's thirteenth card says over any list of calls, of a session that crosses: each call is given the session that the last one
-- handed back.
-- Assumes nothing.
use Prim.Native.Nat.{ℕ, ◌≤◌, ◌<◌, min}
use mathlib.Core.Path.{◌≡◌, sym, ap, ◌∙◌}
use mathlib.Core.List.{List, []}
use mathlib.Core.Logic.{inl, inr}
use native.Mathlib.Decide.{dec_lt}
use native.Mathlib.Omega.{arith}
use Rattle.types.specs.declared.Prover.{Prover}
use Rattle.lists.specs.Member.{EachOnce, Member}
use Rattle.lists.specs.Places.{places, zeros8}
use Rattle.rules.specs.Answer.{unless_refused}
use Rattle.runs.specs.Memory.{listed_at, saved_at}
use Rattle.runs.specs.Ours.{call_prover, prover_after, prover_trace}
use Rattle.runs.specs.Prover.{new_prover, prover_state}
use Rattle.runs.specs.ProverCalls.{ProverCall, Save, Return, answered_on, challenges_of, Ended, NoneReturns, Shaped}
use Rattle.runs.specs.Run.{answered, session_after}
use Rattle.runs.specs.Saving.{prover_phase, return_to, save}
use Rattle.runs.proofs.OneAnswer.{prover_once}
use Rattle.runs.proofs.SavedStates.{phase_beyond, saved_states}
use Rattle.crossing.specs.Calls.{answered_prover, answered_trace, prover_read, read_answers}
use Rattle.crossing.specs.Provers.{prover_of, prover_session, prover_answer}
use Rattle.crossing.specs.declared.ProverSession.{ProverSession}
use Rattle.crossing.proofs.ProverCrossing.{handed_on, handed_on_all, handed_out_all, out_and_in}
use Rattle.crossing.proofs.ProverCrossing.{prover_answered_across, prover_trace_across, state_ended}

-- the session after calls
abbrev after : List ProverCall → ProverSession → ProverSession
after calls s = session_after answered_prover (λ answer. answer.session) calls s

-- ---- one answer for each commitment

-- no commitment gets two answers: those of the calls that are carried out are different from each other
pub per_commitment_across : (calls : List ProverCall) (s : ProverSession) → Shaped (prover_of s)
    → EachOnce (answered_on (read_answers prover_read (answered_trace calls s)))
unfolding prover_trace
per_commitment_across calls s shaped = rw (prover_trace_across calls s) (saved_states.per_commitment calls (prover_of s) shaped)

-- nor is one answered that the session lists
pub listed_before_across : (calls : List ProverCall) (s : ProverSession) (i : ℕ) → Shaped (prover_of s) → i < min 64 s.memory.count
    → ¬ Member (places 8 (listed_at s.memory i)) (answered_on (read_answers prover_read (answered_trace calls s)))
unfolding prover_trace prover_of
listed_before_across calls s i shaped few =
    rw (prover_trace_across calls s) (saved_states.listed_before calls (prover_of s) i shaped few)

-- ---- saved states

-- what is saved under a name stays as it is, until the name is saved under again
pub saved_stays_across : (calls : List ProverCall) (s : ProverSession) (name : ℕ) → ¬ Member (Save name) calls
    → saved_at (after calls s).memory name ≡ saved_at s.memory name
unfolding prover_of prover_after
saved_stays_across calls s name none =
    ap (λ (p : Prover). saved_at p.memory name) (handed_on_all calls s) ∙ saved_states.saved_stays calls (prover_of s) name none

-- and a return then brings it back: the state, under its number, the nonce and the commitment
pub comes_back_across : (calls : List ProverCall) (s : ProverSession) (name : ℕ) → Shaped (prover_of s) → name < 8 → ¬ Member (Save name) calls
    → answered_prover (Return name) (after calls (answered_prover (Save name) s).session)
    ≡ record {
      session =
          record {
            phase = prover_state (prover_phase s.phase);
            nonce = s.nonce;
            commitment = s.commitment;
            memory = (after calls (answered_prover (Save name) s).session).memory;
          };
      values = zeros8;
      refusal = 0;
    }
unfolding prover_of prover_session prover_answer prover_after call_prover unless_refused
comes_back_across calls s name shaped few none =
    let saved : ProverSession = (answered_prover (Save name) s).session in
    let on : prover_of (after calls saved) ≡ prover_after calls (save (prover_of s) name).session =
    handed_on_all calls saved ∙ ap (prover_after calls) (handed_on (Save name) s) in
    ap (prover_answer (after calls saved))
    (ap (λ (p : Prover). return_to p name) on ∙ saved_states.comes_back calls (prover_of s) name shaped few none)
    ∙ (λ i. record {
      session =
          record {
            phase = prover_state (prover_phase s.phase);
            nonce = s.nonce;
            commitment = s.commitment;
            memory = (sym on i).memory;
          };
      values = zeros8;
      refusal = 0;
    })

-- ---- Answered and Dropped

-- from a new session any calls, returns too, lead to Answered or Dropped with a nonce of zeros only
pub wiped_new_across : (calls : List ProverCall) (s : ProverSession) → after calls (prover_session new_prover) ≡ s → 2 ≤ s.phase
    → s.nonce ≡ zeros8
unfolding prover_session prover_after new_prover prover_state
wiped_new_across calls s at_end late =
    let out : s ≡ prover_session (prover_after calls new_prover) =
    sym at_end ∙ handed_out_all calls (prover_session new_prover) (omega arith)
    ∙ ap (λ (p : Prover). prover_session (prover_after calls p)) (out_and_in new_prover) in
    rw out (saved_states.wiped_new calls ((state_ended (prover_after calls new_prover).phase).0 (rw out at late)))

-- a number from 2 on is that of Answered or is taken as Dropped
late_ended : (s : ProverSession) → 2 ≤ s.phase → Ended (prover_of s).phase
unfolding prover_of prover_phase
late_ended s late = elim (dec_lt 2 s.phase) [
  | yes beyond ↦ inr (phase_beyond s.phase beyond)
  | no zero_case ↦ let two : s.phase ≡ 2 = omega arith in inl (rw two)
]

-- such a session keeps its state, nonce and commitment in calls of which none returns, and answers no challenge
pub ended_across : (calls : List ProverCall) (s : ProverSession) → NoneReturns calls → 2 ≤ s.phase
    → (answered challenges_of (answered_trace calls s) ≡ [])
    × (prover_phase (after calls s).phase ≡ prover_phase s.phase)
    × ((after calls s).nonce ≡ s.nonce) × ((after calls s).commitment ≡ s.commitment)
unfolding prover_of prover_after prover_trace
ended_across calls s none late =
    let (no_answer, stays) = prover_once.ended calls (prover_of s) none (late_ended s late) in
    let on = handed_on_all calls s in (
      prover_answered_across calls s ∙ no_answer,
      ap (λ (p : Prover). p.phase) on ∙ stays.0,
      ap (λ (p : Prover). p.nonce) on ∙ stays.1,
      ap (λ (p : Prover). p.commitment) on ∙ stays.2,
    )
