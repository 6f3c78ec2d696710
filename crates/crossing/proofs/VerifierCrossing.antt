-- Vic's session crosses and comes back the same, and a call on a session that crossed is the call on the session.
-- Assumes nothing.
use Prim.Native.Nat.{ℕ, ◌+◌, ◌≤◌, ◌<◌}
use mathlib.Core.Path.{◌≡◌, refl, sym, ap, ap₂, ◌∙◌}
use mathlib.Core.List.{List}
use native.Mathlib.Omega.{arith}
use lib.ListN.{length, length-map}
use Rattle.types.specs.declared.Verifier.{Verifier}
use Rattle.types.specs.declared.VerifierPhase.{VerifierPhase}
use Rattle.types.specs.declared.VerifierPhase.TheVariants.{Waiting, Holding, Asked, Judged}
use Rattle.types.specs.declared.VerifierStep.{VerifierStep}
use Rattle.rules.specs.Answer.{unless_refused}
use Rattle.runs.specs.Ours.{call_verifier, verifier_after, verifier_trace}
use Rattle.runs.specs.Run.{session_after}
use Rattle.runs.specs.Verifier.{verifier_state}
use Rattle.runs.specs.VerifierCalls.{VerifierCall, Commitment, Challenge, Response}
use Rattle.runs.proofs.OrderOfSteps.{verifier_ordered}
use Rattle.runs.proofs.VerifierCalls.{judged_unmoved, vic}
use Rattle.runs.proofs.Run.{refused_unmoved}
use Rattle.crossing.specs.Calls.{answered_verifier, answered_verifier_trace, read_answers, verifier_read}
use Rattle.crossing.specs.OfFour.{of_four}
use Rattle.crossing.specs.Verifiers.{verifier_phase, verifier_of, verifier_session, verifier_answer, verifier_judgement}
use Rattle.crossing.specs.declared.VerifierAnswer.{VerifierAnswer}
use Rattle.crossing.specs.declared.VerifierSession.{VerifierSession}
use Rattle.crossing.proofs.Judgements.{judgement_number}
use Rattle.crossing.proofs.HandedBack.{Crossing, back_refused, handed, out_across, session_across, trace_across}
use Rattle.crossing.proofs.Phases.{of_four_beyond, of_four_number}

-- ---- the session

-- a state's number has the state
pub phase_of_state : (p : VerifierPhase) → verifier_phase (verifier_state p) ≡ p
unfolding verifier_phase of_four verifier_state
phase_of_state Waiting = refl
phase_of_state Holding = refl
phase_of_state Asked = refl
phase_of_state Judged = refl

-- a number below four is that of its state
pub state_of_phase : (n : ℕ) → n < 4 → verifier_state (verifier_phase n) ≡ n
unfolding verifier_phase verifier_state
state_of_phase n few = of_four_number Waiting Holding Asked Judged verifier_state refl refl refl refl n few

-- a session handed out and in again is the same
pub out_and_in : (v : Verifier) → verifier_of (verifier_session v) ≡ v
unfolding verifier_of verifier_session
out_and_in v = rw (phase_of_state v.phase)

-- a session with a state's number handed in and out again is the same
pub in_and_out : (s : VerifierSession) → s.phase < 4 → verifier_session (verifier_of s) ≡ s
unfolding verifier_of verifier_session
in_and_out s few = rw (state_of_phase s.phase few)

-- ---- the calls

-- the number in an answer is that of the call
pub answered_refusal : (call : VerifierCall) (s : VerifierSession)
    → (answered_verifier call s).refusal ≡ (call_verifier call (verifier_of s)).refusal
unfolding answered_verifier call_verifier verifier_answer verifier_judgement
answered_refusal (Commitment sheet t) s = refl
answered_refusal (Challenge sheet c) s = refl
answered_refusal (Response sheet r) s = judgement_number _

-- the session in an answer is that after the call, or the one that was handed in
answered_session : (call : VerifierCall) (s : VerifierSession) → (answered_verifier call s).session
    ≡ unless_refused (call_verifier call (verifier_of s)).refusal (verifier_session (call_verifier call (verifier_of s)).session) s
unfolding answered_verifier call_verifier verifier_answer verifier_judgement
answered_session (Commitment sheet t) s = refl
answered_session (Challenge sheet c) s = refl
answered_session (Response sheet r) s = refl

-- Vic's session as it crosses
abbrev vic_crossing : Crossing vic VerifierSession VerifierAnswer
vic_crossing = record {
  answer = answered_verifier;
  form = λ answer. answer.session;
  number = λ answer. answer.refusal;
  into = verifier_of;
  out = verifier_session;
  again = out_and_in;
  number_is = answered_refusal;
  form_is = answered_session;
}

module _ (call : VerifierCall) (s : VerifierSession) where
  -- a refused call hands the session back as it was handed in
  pub refused_kept : 0 < (answered_verifier call s).refusal → (answered_verifier call s).session ≡ s
  refused_kept = back_refused vic_crossing call s

  -- the session handed back is the one after the call
  pub handed_on : verifier_of (answered_verifier call s).session ≡ (call_verifier call (verifier_of s)).session
  handed_on = handed vic_crossing call s

  -- so an answer reads as what the call answers
  pub told_across : verifier_read (answered_verifier call s) ≡ call_verifier call (verifier_of s)
  told_across = rw (handed_on, answered_refusal call s)

  -- a number that is no state's allows no call: it is refused, and the session comes back as it was handed in
  pub unknown_refused : 4 ≤ s.phase → (0 < (answered_verifier call s).refusal) × ((answered_verifier call s).session ≡ s)
  unfolding verifier_of verifier_phase
  unknown_refused unknown =
      let last : (verifier_of s).phase ≡ Judged = of_four_beyond Waiting Holding Asked Judged (omega arith) in
      let refused : 0 < (answered_verifier call s).refusal =
      rw answered_refusal (refused_unmoved vic call (verifier_of s) (judged_unmoved (verifier_of s) call _ last)) in
      (refused, refused_kept refused)

-- after any calls, each given the session that the last one handed back, the session is the one after the calls
pub handed_on_all : (calls : List VerifierCall) (s : VerifierSession)
    → verifier_of (session_after answered_verifier (λ answer. answer.session) calls s) ≡ verifier_after calls (verifier_of s)
unfolding verifier_after call_verifier
handed_on_all = session_across vic_crossing

-- so is the form that is handed back, if the one that was given has a state's number
pub handed_out_all : (calls : List VerifierCall) (s : VerifierSession) → s.phase < 4
    → session_after answered_verifier (λ answer. answer.session) calls s ≡ verifier_session (verifier_after calls (verifier_of s))
unfolding verifier_after call_verifier
handed_out_all calls s few = out_across vic_crossing calls s (in_and_out s few)

-- so are the calls that are carried out, with what they answer
pub verifier_trace_across : (calls : List VerifierCall) (s : VerifierSession)
    → read_answers verifier_read (answered_verifier_trace calls s) ≡ verifier_trace calls (verifier_of s)
unfolding answered_verifier_trace verifier_trace call_verifier
verifier_trace_across = trace_across vic_crossing verifier_read told_across

-- each call that is carried out leads one state on: there is at most one commitment, one challenge and one verdict
pub next_across : (calls : List VerifierCall) (s : VerifierSession) → s.phase < 4
    → (session_after answered_verifier (λ answer. answer.session) calls s).phase ≡ s.phase + length (answered_verifier_trace calls s)
unfolding verifier_session verifier_of read_answers verifier_after verifier_trace
next_across calls s few =
    let read : List (VerifierCall × VerifierStep) = read_answers verifier_read (answered_verifier_trace calls s) in
    let count : length read ≡ length (answered_verifier_trace calls s) = length-map (answered_verifier_trace calls s) _ in
    ap (λ (s : VerifierSession). s.phase) (handed_out_all calls s few)
    ∙ verifier_ordered.next calls (verifier_of s)
    ∙ ap₂ (λ (a b : ℕ). a + b) (state_of_phase s.phase few) (ap length (sym (verifier_trace_across calls s)) ∙ count)
