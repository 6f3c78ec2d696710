-- The calls on rounds and sessions as they are defined, by the definitions that the contracts cite, and the words on calls of
-- these. The marker's text stands in Marker.
-- Assumes nothing.
use Rattle.std.specs.Prelude.{ℕ, List}
use Rattle.types.specs.declared.Prover.{Prover}
use Rattle.types.specs.declared.ProverStep.{ProverStep}
use Rattle.types.specs.declared.Round.{Round}
use Rattle.types.specs.declared.Verifier.{Verifier}
use Rattle.types.specs.declared.VerifierStep.{VerifierStep}
use Rattle.types.specs.declared.VerifierVerdict.{VerifierVerdict}
use Rattle.runs.specs.Calls.{judge_round, simulate_commitment, extract_witness}
use Rattle.runs.specs.JointRun.{told as told_by}
use Rattle.runs.specs.Knowledge.{Accepts as AcceptsBy, honest_round as honest_round_by, simulated_round as simulated_round_by}
use Rattle.runs.specs.Prover.{new_prover, commit, respond, drop_session}
use Rattle.runs.specs.ProverCalls.{ProverCall}
use Rattle.runs.specs.ProverCalls.{call_prover as call_prover_by, prover_after as prover_after_by, prover_trace as prover_trace_by}
use Rattle.runs.specs.RunCalls.{RunCalls}
use Rattle.runs.specs.Saving.{save, return_to}
use Rattle.runs.specs.Verifier.{new_verifier, take_commitment, take_challenge, take_response}
use Rattle.runs.specs.VerifierCalls.{VerifierCall}
use Rattle.runs.specs.VerifierCalls.{
  call_verifier as call_verifier_by,
  verifier_after as verifier_after_by,
  verifier_trace as verifier_trace_by,
}

abbrev pub run_calls : RunCalls
run_calls = record {
  judge_round = judge_round;
  simulate_commitment = simulate_commitment;
  extract_witness = extract_witness;
  new_prover = new_prover;
  commit = commit;
  respond = respond;
  drop_session = drop_session;
  save = save;
  return_to = return_to;
  new_verifier = new_verifier;
  take_commitment = take_commitment;
  take_challenge = take_challenge;
  take_response = take_response;
}

-- ---- rounds

abbrev pub Accepts : List ℕ → Round → Type 0
Accepts sheet round = AcceptsBy run_calls sheet round

unfoldable pub honest_round : List ℕ → List ℕ → ℕ → List ℕ → Round
honest_round sheet x c k = honest_round_by run_calls sheet x c k

unfoldable pub simulated_round : List ℕ → ℕ → List ℕ → Round
simulated_round sheet c r = simulated_round_by run_calls sheet c r

abbrev pub told : List ℕ → Round → VerifierVerdict
told sheet round = told_by run_calls sheet round

-- ---- lists of calls

unfoldable pub call_prover : ProverCall → Prover → ProverStep
call_prover call p = call_prover_by run_calls call p

unfoldable pub prover_after : List ProverCall → Prover → Prover
prover_after calls p = prover_after_by run_calls calls p

unfoldable pub prover_trace : List ProverCall → Prover → List (ProverCall × ProverStep)
prover_trace calls p = prover_trace_by run_calls calls p

unfoldable pub call_verifier : VerifierCall → Verifier → VerifierStep
call_verifier call v = call_verifier_by run_calls call v

unfoldable pub verifier_after : List VerifierCall → Verifier → Verifier
verifier_after calls v = verifier_after_by run_calls calls v

unfoldable pub verifier_trace : List VerifierCall → Verifier → List (VerifierCall × VerifierStep)
verifier_trace calls v = verifier_trace_by run_calls calls v
