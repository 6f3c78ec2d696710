-- Peggy's steps over any list of calls, from any session, with any sheets and arguments (01, "Sessions"): if no call returns, one
-- session answers one challenge at most, and its nonce is zeros once it has answered or dropped.
-- Assumes nothing.
use Prim.Native.Nat.{◌+◌, ◌≤◌}
use mathlib.Core.Path.{◌≡◌, refl, ap, subst, ◌∙◌}
use mathlib.Core.Logic.{inl, inr}
use mathlib.Core.List.{List, [], ◌∷◌}
use native.Mathlib.Omega.{arith}
use lib.ListN.{length}
use Rattle.types.specs.declared.Prover.{Prover}
use Rattle.types.specs.declared.ProverPhase.{ProverPhase}
use Rattle.types.specs.declared.ProverStep.{ProverStep}
use Rattle.lists.specs.Member.{Member}
use Rattle.lists.specs.Places.{zeros8}
use Rattle.runs.specs.Memory.{no_memory}
use Rattle.runs.specs.Ours.{call_prover, prover_after, prover_trace, run_calls}
use Rattle.runs.specs.Prover.{new_prover, prover_state}
use Rattle.runs.specs.ProverCalls.{ProverCall, Commit, Respond, Drop, Save, Return, ProverMoves}
use Rattle.runs.specs.ProverCalls.{challenges_of, Ended, NoneReturns, SameState}
use Rattle.runs.specs.Run.{Leads, answered}
use Rattle.runs.specs.Sessions.{OneAnswer}
use Rattle.runs.proofs.ProverCalls.{ended_apart, ended_unmoved, left, peggy}
use Rattle.runs.proofs.Run.{leads, paid, stays}

-- the parts of equal sessions
abbrev phase_is : {p q : Prover} → p ≡ q → p.phase ≡ q.phase
phase_is e = ap (λ (r : Prover). r.phase) e

abbrev nonce_is : {p q : Prover} → p ≡ q → p.nonce ≡ q.nonce
nonce_is e = ap (λ (r : Prover). r.nonce) e

-- a session that has ended can answer no challenge
none_left : (phase : ProverPhase) → Ended phase → left phase ≡ 0
unfolding left prover_state
none_left phase (inl e) = ap left e
none_left phase (inr e) = ap left e

-- a list of no length is empty
no_length : {A : Type 0} (xs : List A) → length xs ≤ 0 → xs ≡ []
no_length [] few = refl
no_length (x ∷ xs) few = absurd (omega arith)

-- ---- each call of a list of which none returns

module _ (calls : List ProverCall) (none : NoneReturns calls) where
  -- it answers no more than is left to answer
  pays : (call : ProverCall) → Member call calls → (p : Prover) (step : ProverStep) → ProverMoves p call step
      → length (challenges_of call) + left step.session.phase ≤ left p.phase
  unfolding left prover_state
  pays (Commit sheet nonce) member p step (from, to) = rw (phase_is to, from) (omega arith)
  pays (Respond sheet c witness) member p step (from, to) = rw (phase_is to, from) (omega arith)
  pays Drop member p step (from, to, empty) = rw (phase_is to) (omega arith)
  pays (Save name) member p step (from, to, empty) = rw (phase_is to) (omega arith)
  pays (Return name) member p step moved = absurd (none name member)

  -- it leads to no state that has ended, unless the nonce is zeros
  wipes : (call : ProverCall) → Member call calls → (p : Prover) (step : ProverStep) → ProverMoves p call step
      → (Ended p.phase → p.nonce ≡ zeros8) → Ended step.session.phase → step.session.nonce ≡ zeros8
  wipes (Commit sheet nonce) member p step (from, to) zeros ended = absurd (ended_apart _ ended (inr (phase_is to)))
  wipes (Respond sheet c witness) member p step (from, to) zeros ended = nonce_is to
  wipes Drop member p step (from, to, empty) zeros ended = nonce_is to
  wipes (Save name) member p step (from, to, empty) zeros ended = nonce_is to ∙ zeros (subst Ended (phase_is to) ended)
  wipes (Return name) member p step moved zeros ended = absurd (none name member)

  -- it keeps the state, nonce and commitment of a session that has ended
  rests : (p : Prover) → Ended p.phase → (call : ProverCall) → Member call calls → (q : Prover) (step : ProverStep)
      → ProverMoves q call step → SameState p q → SameState p step.session
  rests p ended (Commit sheet nonce) member q step moved same =
      absurd (ended_unmoved q (Commit sheet nonce) step tt (rw same.0 ended) moved)
  rests p ended (Respond sheet c witness) member q step moved same =
      absurd (ended_unmoved q (Respond sheet c witness) step tt (rw same.0 ended) moved)
  rests p ended Drop member q step moved same = absurd (ended_unmoved q Drop step tt (rw same.0 ended) moved)
  rests p ended (Save name) member q step (from, to, empty) same = rw to same
  rests p ended (Return name) member q step moved same = absurd (none name member)

-- ---- any list of calls

-- the calls that are carried out lead from the session to the one at the end
pub prover_leads : (calls : List ProverCall) (p : Prover)
    → Leads (λ step. step.session) ProverMoves p (prover_trace calls p) (prover_after calls p)
unfolding prover_trace prover_after call_prover
prover_leads = leads peggy

-- if none returns, they answer no more than is left to answer
answers_left : (calls : List ProverCall) (p : Prover) → NoneReturns calls
    → length (answered challenges_of (prover_trace calls p)) ≤ left p.phase
unfolding answered prover_trace call_prover
answers_left calls p none =
    let all = paid peggy (λ step. challenges_of step.0) (λ q. left q.phase) calls (pays calls none) p in
    omega (arith, all)

-- at most one challenge
pub one_answer : (calls : List ProverCall) (p : Prover) → NoneReturns calls → length (answered challenges_of (prover_trace calls p)) ≤ 1
unfolding left
one_answer calls p none = omega (arith, answers_left calls p none)

-- Peggy's steps are 01's and card 13's
pub prover_once : OneAnswer run_calls
unfolding new_prover no_memory prover_trace prover_after call_prover
prover_once = record {
  new = refl;
  in_order = prover_leads;
  once = one_answer;
  wiped = λ calls p none started ended.
      stays peggy (λ q. Ended q.phase → q.nonce ≡ zeros8) calls (wipes calls none) p (λ e. absurd (started e)) ended;
  ended = λ calls p none ended. (
    no_length _ (omega (arith, answers_left calls p none, none_left p.phase ended)),
    stays peggy (SameState p) calls (rests calls none p ended) p (refl, refl, refl),
  );
}
