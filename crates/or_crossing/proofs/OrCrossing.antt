-- Peggy's session of the OR proof crosses and comes back the same, and a call on a session that crossed is the call on the session.
-- Assumes nothing.
use Prim.Native.Nat.{◌≤◌, ◌<◌}
use mathlib.Core.Path.{◌≡◌, refl, sym, ◌∙◌}
use mathlib.Core.List.{List}
use mathlib.Core.Logic.{inr}
use native.Mathlib.Omega.{arith}
use lib.ListN.{length}
use Rattle.types.specs.declared.ProverPhase.TheVariants.{Dropped}
use Rattle.lists.specs.Places.{zeros8}
use Rattle.runs.specs.Run.{session_after, answered}
use Rattle.runs.proofs.Run.{refused_unmoved}
use Rattle.runs.specs.ProverCalls.{Ended}
use Rattle.runs.proofs.SavedStates.{phase_beyond, phase_of_state}
use Rattle.disjunctions.specs.Ours.{call_or, or_after, or_trace}
use Rattle.disjunctions.specs.declared.OrProver.{OrProver}
use Rattle.disjunctions.specs.Calls.{OrCall, or_challenges_of}
use Rattle.disjunctions.proofs.OrSessions.{or_sessions, or_unmoved, or_peggy}
use Rattle.crossing.specs.Calls.{read_answers}
use Rattle.crossing.proofs.HandedBack.{Crossing, answered_across, back_refused, handed, out_across, session_across, trace_across}
use Rattle.crossing.proofs.ProverCrossing.{state_of_phase, state_ended}
use Rattle.or_crossing.specs.Calls.{answered_or, answered_or_trace, or_read}
use Rattle.or_crossing.specs.Provers.{or_prover_of, or_session, or_answer}
use Rattle.or_crossing.specs.declared.OrAnswer.{OrAnswer}
use Rattle.or_crossing.specs.declared.OrSession.{OrSession}

-- ---- the session

-- a session handed out and in again is the same
pub or_out_and_in : (p : OrProver) → or_prover_of (or_session p) ≡ p
unfolding or_prover_of or_session
or_out_and_in p = rw (phase_of_state p.phase)

-- a session with a state's number handed in and out again is the same
pub or_in_and_out : (s : OrSession) → s.phase < 4 → or_session (or_prover_of s) ≡ s
unfolding or_prover_of or_session
or_in_and_out s few = rw (state_of_phase s.phase few)

-- ---- the calls

-- the session as it crosses
unfoldable or_crossing : Crossing or_peggy OrSession OrAnswer
unfolding or_answer
or_crossing = record {
  answer = answered_or;
  form = λ answer. answer.session;
  number = λ answer. answer.refusal;
  into = or_prover_of;
  out = or_session;
  again = or_out_and_in;
  number_is = λ call s. refl;
  form_is = λ call s. refl;
}

module _ (call : OrCall) (s : OrSession) where
  -- a refused call hands the session back as it was handed in
  pub or_refused_kept : 0 < (answered_or call s).refusal → (answered_or call s).session ≡ s
  unfolding or_crossing
  or_refused_kept = back_refused or_crossing call s

  -- the number, and both commitments or both responses with c0, are the call's
  pub or_values_kept : ((answered_or call s).refusal ≡ (call_or call (or_prover_of s)).refusal)
      × ((answered_or call s).values0 ≡ (call_or call (or_prover_of s)).values0)
      × ((answered_or call s).values1 ≡ (call_or call (or_prover_of s)).values1)
      × ((answered_or call s).challenge0 ≡ (call_or call (or_prover_of s)).challenge0)
  unfolding or_answer
  or_values_kept = (refl, refl, refl, refl)

  -- the session handed back is the one after the call
  pub or_handed_on : or_prover_of (answered_or call s).session ≡ (call_or call (or_prover_of s)).session
  unfolding or_crossing
  or_handed_on = handed or_crossing call s

  -- so an answer reads as what the call answers
  pub or_told_across : or_read (answered_or call s) ≡ call_or call (or_prover_of s)
  unfolding or_answer
  or_told_across = rw or_handed_on

  -- a number that is no state's allows no call: it is refused, and the session comes back as it was handed in
  pub or_unknown_refused : 4 ≤ s.phase → (0 < (answered_or call s).refusal) × ((answered_or call s).session ≡ s)
  unfolding or_answer or_prover_of
  or_unknown_refused unknown =
      let last : (or_prover_of s).phase ≡ Dropped = phase_beyond s.phase (omega arith) in
      let refused : 0 < (answered_or call s).refusal =
      refused_unmoved or_peggy call (or_prover_of s) (or_unmoved (or_prover_of s) call _ (inr last)) in
      (refused, or_refused_kept refused)

-- after any calls, each given the session that the last one handed back, the session is the one after the calls
pub or_handed_on_all : (calls : List OrCall) (s : OrSession)
    → or_prover_of (session_after answered_or (λ answer. answer.session) calls s) ≡ or_after calls (or_prover_of s)
unfolding or_after call_or or_crossing
or_handed_on_all = session_across or_crossing

-- so is the form that is handed back, if the one that was given has a state's number
pub or_handed_out_all : (calls : List OrCall) (s : OrSession) → s.phase < 4
    → session_after answered_or (λ answer. answer.session) calls s ≡ or_session (or_after calls (or_prover_of s))
unfolding or_after call_or or_crossing
or_handed_out_all calls s few = out_across or_crossing calls s (or_in_and_out s few)

-- so are the calls that are carried out, with what they answer
pub or_trace_across : (calls : List OrCall) (s : OrSession)
    → read_answers or_read (answered_or_trace calls s) ≡ or_trace calls (or_prover_of s)
unfolding answered_or_trace or_trace call_or or_crossing
or_trace_across = trace_across or_crossing or_read or_told_across

-- so over any calls, each given the session that the last one handed back, at most one challenge is answered
pub or_one_answer_across : (calls : List OrCall) (s : OrSession) → length (answered or_challenges_of (answered_or_trace calls s)) ≤ 1
unfolding answered_or_trace or_trace call_or or_crossing
or_one_answer_across calls s = rw (answered_across or_crossing or_read or_told_across or_challenges_of calls s) (or_sessions.once calls (or_prover_of s))

-- a session that the calls have led from New or Committed to Answered or Dropped holds zeros but for the commitments
pub or_wiped_across : (calls : List OrCall) (s s' : OrSession) → s.phase < 2
    → session_after answered_or (λ answer. answer.session) calls s ≡ s' → 2 ≤ s'.phase
    → (s'.nonce ≡ zeros8) × (s'.response ≡ zeros8) × (s'.challenge ≡ 0) × (s'.side ≡ 0)
unfolding or_session or_prover_of or_after
or_wiped_across calls s s' early after late =
    let out = sym after ∙ or_handed_out_all calls s (omega arith) in
    let number = state_of_phase s.phase (omega arith) in
    let started : ¬ Ended (or_prover_of s).phase = λ ended. let z = (state_ended (or_prover_of s).phase).1 ended in omega arith in
    let ended : Ended (or_after calls (or_prover_of s)).phase = (state_ended _).0 (rw out at late) in
    let wiped = or_sessions.wiped calls (or_prover_of s) started ended in
    rw out (wiped.nonce, wiped.response, wiped.challenge, wiped.side)
