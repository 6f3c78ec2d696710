-- Peggy's session crosses and comes back the same, and a call on a session that crossed is the call on the session.
-- Assumes nothing.
use Prim.Native.Nat.{ℕ, ◌≤◌, ◌<◌}
use mathlib.Core.Path.{◌≡◌, refl, sym, ap, ◌∙◌}
use mathlib.Core.List.{List}
use mathlib.Core.Logic.{◌↔◌, inl, inr, ⊎_elim}
use native.Mathlib.Omega.{arith}
use lib.ListN.{length}
use Rattle.types.specs.declared.Prover.{Prover}
use Rattle.types.specs.declared.ProverPhase.{ProverPhase}
use Rattle.types.specs.declared.ProverPhase.TheVariants.{New, Committed, Answered, Dropped}
use Rattle.lists.specs.Places.{zeros8}
use Rattle.runs.specs.Ours.{call_prover, prover_after, prover_trace}
use Rattle.runs.specs.Prover.{prover_state}
use Rattle.runs.specs.ProverCalls.{ProverCall, challenges_of, Ended, NoneReturns}
use Rattle.runs.specs.Run.{answered, session_after}
use Rattle.runs.specs.Saving.{prover_phase}
use Rattle.runs.proofs.OneAnswer.{one_answer, prover_once}
use Rattle.runs.proofs.ProverCalls.{Steps, ended_unmoved, peggy}
use Rattle.runs.proofs.Run.{refused_unmoved}
use Rattle.runs.proofs.SavedStates.{phase_beyond, phase_of_state}
use Rattle.crossing.specs.Calls.{answered_prover, answered_trace, prover_read, read_answers}
use Rattle.crossing.specs.OfFour.{of_four}
use Rattle.crossing.specs.Provers.{prover_of, prover_session, prover_answer}
use Rattle.crossing.specs.declared.ProverAnswer.{ProverAnswer}
use Rattle.crossing.specs.declared.ProverSession.{ProverSession}
use Rattle.crossing.proofs.HandedBack.{Crossing, answered_across, back_refused, handed, out_across, session_across, trace_across}
use Rattle.crossing.proofs.Phases.{of_four_number}

-- ---- the session

-- a number below four is that of its state
pub state_of_phase : (n : ℕ) → n < 4 → prover_state (prover_phase n) ≡ n
unfolding prover_phase of_four prover_state
state_of_phase n few = of_four_number New Committed Answered Dropped prover_state refl refl refl refl n few

-- a session handed out and in again is the same
pub out_and_in : (p : Prover) → prover_of (prover_session p) ≡ p
unfolding prover_of prover_session
out_and_in p = rw (phase_of_state p.phase)

-- a session with a state's number handed in and out again is the same
pub in_and_out : (s : ProverSession) → s.phase < 4 → prover_session (prover_of s) ≡ s
unfolding prover_of prover_session
in_and_out s few = rw (state_of_phase s.phase few)

-- Answered and Dropped are the states numbered from 2 on
pub state_ended : (p : ProverPhase) → (2 ≤ prover_state p) ↔ Ended p
unfolding prover_state
state_ended p = (late p, ⊎_elim (λ (e : p ≡ Answered). omega (arith, ap prover_state e)) (λ (e : p ≡ Dropped). omega (arith, ap prover_state e)))
  where
    late : (p : ProverPhase) → 2 ≤ prover_state p → Ended p
    late New few = absurd (omega arith)
    late Committed few = absurd (omega arith)
    late Answered few = inl refl
    late Dropped few = inr refl

-- ---- the calls

-- Peggy's session as it crosses
unfoldable peggy_crossing : Crossing peggy ProverSession ProverAnswer
unfolding prover_answer
peggy_crossing = record {
  answer = answered_prover;
  form = λ answer. answer.session;
  number = λ answer. answer.refusal;
  into = prover_of;
  out = prover_session;
  again = out_and_in;
  number_is = λ call s. refl;
  form_is = λ call s. refl;
}

module _ (call : ProverCall) (s : ProverSession) where
  -- a refused call hands the session back as it was handed in
  pub refused_kept : 0 < (answered_prover call s).refusal → (answered_prover call s).session ≡ s
  unfolding peggy_crossing
  refused_kept = back_refused peggy_crossing call s

  -- the number, and the commitment or the response, are the call's
  pub values_kept : ((answered_prover call s).refusal ≡ (call_prover call (prover_of s)).refusal)
      × ((answered_prover call s).values ≡ (call_prover call (prover_of s)).values)
  unfolding prover_answer
  values_kept = (refl, refl)

  -- the session handed back is the one after the call
  pub handed_on : prover_of (answered_prover call s).session ≡ (call_prover call (prover_of s)).session
  unfolding peggy_crossing
  handed_on = handed peggy_crossing call s

  -- so an answer reads as what the call answers
  pub told_across : prover_read (answered_prover call s) ≡ call_prover call (prover_of s)
  unfolding prover_answer
  told_across = rw handed_on

  -- a number that is no state's allows no commit, response or drop: it is refused, and the session comes back as it was handed in
  pub unknown_refused : Steps call → 4 ≤ s.phase → (0 < (answered_prover call s).refusal) × ((answered_prover call s).session ≡ s)
  unfolding prover_answer prover_of
  unknown_refused steps unknown =
      let last : (prover_of s).phase ≡ Dropped = phase_beyond s.phase (omega arith) in
      let refused : 0 < (answered_prover call s).refusal =
      refused_unmoved peggy call (prover_of s) (ended_unmoved (prover_of s) call _ steps (inr last)) in
      (refused, refused_kept refused)

-- after any calls, each given the session that the last one handed back, the session is the one after the calls
pub handed_on_all : (calls : List ProverCall) (s : ProverSession)
    → prover_of (session_after answered_prover (λ answer. answer.session) calls s) ≡ prover_after calls (prover_of s)
unfolding prover_after call_prover peggy_crossing
handed_on_all = session_across peggy_crossing

-- so is the form that is handed back, if the one that was given has a state's number
pub handed_out_all : (calls : List ProverCall) (s : ProverSession) → s.phase < 4
    → session_after answered_prover (λ answer. answer.session) calls s ≡ prover_session (prover_after calls (prover_of s))
unfolding prover_after call_prover peggy_crossing
handed_out_all calls s few = out_across peggy_crossing calls s (in_and_out s few)

-- so are the calls that are carried out, with what they answer
pub prover_trace_across : (calls : List ProverCall) (s : ProverSession)
    → read_answers prover_read (answered_trace calls s) ≡ prover_trace calls (prover_of s)
unfolding answered_trace prover_trace call_prover peggy_crossing
prover_trace_across = trace_across peggy_crossing prover_read told_across

-- and the challenges that they answer
pub prover_answered_across : (calls : List ProverCall) (s : ProverSession)
    → answered challenges_of (answered_trace calls s) ≡ answered challenges_of (prover_trace calls (prover_of s))
unfolding answered_trace prover_trace call_prover peggy_crossing
prover_answered_across = answered_across peggy_crossing prover_read told_across challenges_of

-- so over any calls of which none returns, each given the session that the last one handed back, at most one challenge is answered
pub one_answer_across : (calls : List ProverCall) (s : ProverSession) → NoneReturns calls
    → length (answered challenges_of (answered_trace calls s)) ≤ 1
one_answer_across calls s none = rw (prover_answered_across calls s) (one_answer calls (prover_of s) none)

-- a session that such calls have led from New or Committed to Answered or Dropped has a nonce of zeros
pub wiped_across : (calls : List ProverCall) (s s' : ProverSession) → NoneReturns calls → s.phase < 2
    → session_after answered_prover (λ answer. answer.session) calls s ≡ s' → 2 ≤ s'.phase → s'.nonce ≡ zeros8
unfolding prover_session prover_of prover_after
wiped_across calls s s' none early after late =
    let out = sym after ∙ handed_out_all calls s (omega arith) in
    let number = state_of_phase s.phase (omega arith) in
    let started : ¬ Ended (prover_of s).phase = λ ended. let z = (state_ended (prover_of s).phase).1 ended in omega arith in
    let ended : Ended (prover_after calls (prover_of s)).phase = (state_ended _).0 (rw out at late) in
    rw out (prover_once.wiped calls (prover_of s) none started ended)
