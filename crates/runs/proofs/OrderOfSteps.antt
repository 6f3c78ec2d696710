-- Vic's steps over any list of calls, from any session, with any sheets and arguments (01, "Sessions": Waiting, Holding, Asked,
-- Judged, in that order, one value a call).
-- Assumes nothing.
use Prim.Native.Nat.{◌+◌, ◌≤◌}
use mathlib.Core.Path.{◌≡◌, refl, ap}
use mathlib.Core.List.{List}
use native.Mathlib.Omega.{arith}
use lib.ListN.{length}
use Rattle.types.specs.declared.Verifier.{Verifier}
use Rattle.types.specs.declared.VerifierStep.{VerifierStep}
use Rattle.runs.specs.Ours.{call_verifier, verifier_after, verifier_trace, run_calls}
use Rattle.runs.specs.Run.{Leads}
use Rattle.runs.specs.Sessions.{StepsInOrder}
use Rattle.runs.specs.Verifier.{new_verifier, verifier_state}
use Rattle.runs.specs.VerifierCalls.{VerifierCall, Commitment, Challenge, Response, VerifierMoves}
use Rattle.runs.proofs.Run.{leads, over_calls, stays, unmoved}
use Rattle.runs.proofs.VerifierCalls.{judged_unmoved, next_state, state_of, vic}

-- ---- each call

-- a held commitment stays
commitment_kept : (t : Verifier) (call : VerifierCall) (v : Verifier) (step : VerifierStep) → VerifierMoves v call step
    → (1 ≤ state_of v) × (v.commitment ≡ t.commitment) → (1 ≤ state_of step.session) × (step.session.commitment ≡ t.commitment)
unfolding verifier_state
commitment_kept t (Commitment sheet u) v step (from, to) (held, same) = absurd (omega (arith, ap verifier_state from))
commitment_kept t (Challenge sheet c) v step (from, to) (held, same) = rw to (omega arith, same)
commitment_kept t (Response sheet r) v step (from, to) (held, same) = rw to (omega arith, same)

-- a held challenge stays
challenge_kept : (t : Verifier) (call : VerifierCall) (v : Verifier) (step : VerifierStep) → VerifierMoves v call step
    → (2 ≤ state_of v) × (v.challenge ≡ t.challenge) → (2 ≤ state_of step.session) × (step.session.challenge ≡ t.challenge)
unfolding verifier_state
challenge_kept t (Commitment sheet u) v step (from, to) (held, same) = absurd (omega (arith, ap verifier_state from))
challenge_kept t (Challenge sheet c) v step (from, to) (held, same) = absurd (omega (arith, ap verifier_state from))
challenge_kept t (Response sheet r) v step (from, to) (held, same) = rw to (omega arith, same)

-- ---- any list of calls

-- the calls that are carried out lead from the session to the one at the end
pub verifier_leads : (calls : List VerifierCall) (v : Verifier)
    → Leads (λ step. step.session) VerifierMoves v (verifier_trace calls v) (verifier_after calls v)
unfolding verifier_trace verifier_after call_verifier
verifier_leads = leads vic

-- Vic's steps are 01's
pub verifier_ordered : StepsInOrder run_calls
unfolding new_verifier verifier_trace verifier_after call_verifier
verifier_ordered = record {
  new = refl;
  in_order = verifier_leads;
  next = λ calls.
      over_calls vic (λ v steps w. state_of w ≡ state_of v + length steps) calls (λ v. omega arith)
      (λ call member v step moved later w rest. omega (arith, next_state v call step moved, rest));
  commitment_fixed = λ calls v held.
      (stays vic (λ w. (1 ≤ state_of w) × (w.commitment ≡ v.commitment)) calls (λ call member. commitment_kept v call) v (held, refl)).1;
  challenge_fixed = λ calls v held.
      (stays vic (λ w. (2 ≤ state_of w) × (w.challenge ≡ v.challenge)) calls (λ call member. challenge_kept v call) v (held, refl)).1;
  ended = λ calls v judged. unmoved vic calls v (λ call member step. judged_unmoved v call step judged);
}
