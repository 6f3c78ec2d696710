-- Demand 2's order of steps (00; 01, "Sessions"): what holds of both sessions over any list of calls, with any sheets and any
-- arguments, each call given the session that the last one handed back.
-- Assumes nothing.
use Rattle.std.specs.Prelude.{◌+◌, ◌≤◌, ◌≡◌, List, [], length, replicate}
use Rattle.types.specs.declared.Prover.{Prover}
use Rattle.types.specs.declared.ProverPhase.TheVariants.{New}
use Rattle.types.specs.declared.Verifier.{Verifier}
use Rattle.types.specs.declared.VerifierPhase.TheVariants.{Waiting, Judged}
use Rattle.lists.specs.Places.{zeros8}
use Rattle.runs.specs.ProverCalls.{ProverCall, ProverMoves, challenges_of, prover_after, prover_trace}
use Rattle.runs.specs.ProverCalls.{Ended, NoneReturns, SameState}
use Rattle.runs.specs.Run.{Leads, answered}
use Rattle.runs.specs.RunCalls.{RunCalls}
use Rattle.runs.specs.Verifier.{verifier_state}
use Rattle.runs.specs.VerifierCalls.{VerifierCall, VerifierMoves, verifier_after, verifier_trace}

module _ (code : RunCalls) where
  open code use {new_prover, new_verifier}

  -- Peggy's steps
  pub record OneAnswer : Type 0 where
    -- a new session holds zeros everywhere: nothing is saved and nothing is listed
    pub new : new_prover
        ≡ record {
          phase = New;
          nonce = zeros8;
          commitment = zeros8;
          memory =
              record {
                saved = replicate 8 (record { nonce = zeros8; commitment = zeros8; phase = 0; kept = 0 });
                answered = replicate 64 (record { commitment = zeros8 });
                count = 0;
              };
        }
    -- the calls that are carried out lead from the session to the one at the end, each as 01 and card 13 have it; a refused call
    -- changes nothing
    pub in_order : (calls : List ProverCall) (p : Prover)
        → Leads (λ step. step.session) ProverMoves p (prover_trace code calls p) (prover_after code calls p)
    -- where no call returns, at most one challenge is answered
    pub once : (calls : List ProverCall) (p : Prover) → NoneReturns calls
        → length (answered challenges_of (prover_trace code calls p)) ≤ 1
    -- a session that such calls have led to Answered or Dropped has a nonce of zeros
    pub wiped : (calls : List ProverCall) (p : Prover) → NoneReturns calls → ¬ Ended p.phase
        → Ended (prover_after code calls p).phase → (prover_after code calls p).nonce ≡ zeros8
    -- one that is Answered or Dropped keeps its state, nonce and commitment in them, and answers no challenge
    pub ended : (calls : List ProverCall) (p : Prover) → NoneReturns calls → Ended p.phase
        → (answered challenges_of (prover_trace code calls p) ≡ []) × SameState p (prover_after code calls p)

  -- Vic's steps
  pub record StepsInOrder : Type 0 where
    -- a new session holds zeros
    pub new : new_verifier ≡ record { phase = Waiting; commitment = zeros8; challenge = 0 }
    -- the calls that are carried out lead from the session to the one at the end, each as 01 has it; a refused call changes nothing
    pub in_order : (calls : List VerifierCall) (v : Verifier)
        → Leads (λ step. step.session) VerifierMoves v (verifier_trace code calls v) (verifier_after code calls v)
    -- each of them leads one state on, so that there is at most one commitment, one challenge and one verdict
    pub next : (calls : List VerifierCall) (v : Verifier)
        → verifier_state (verifier_after code calls v).phase ≡ verifier_state v.phase + length (verifier_trace code calls v)
    -- a held commitment and a held challenge stay as they are
    pub commitment_fixed : (calls : List VerifierCall) (v : Verifier) → 1 ≤ verifier_state v.phase
        → (verifier_after code calls v).commitment ≡ v.commitment
    pub challenge_fixed : (calls : List VerifierCall) (v : Verifier) → 2 ≤ verifier_state v.phase
        → (verifier_after code calls v).challenge ≡ v.challenge
    -- a Judged session carries out no call and stays as it is
    pub ended : (calls : List VerifierCall) (v : Verifier) → v.phase ≡ Judged
        → (verifier_trace code calls v ≡ []) × (verifier_after code calls v ≡ v)

  -- both sessions
  pub record Sessions : Type 0 where
    -- Peggy answers one challenge at most, where no call returns
    pub prover : OneAnswer
    -- Vic takes a commitment, a challenge and a response, in this order
    pub verifier : StepsInOrder
