-- The calls on rounds and on Peggy's and Vic's sessions (01; 02, card 13): a field for each call, and no call's definition is named.
-- Assumes nothing.
use Rattle.std.specs.Prelude.{ℕ, List}
use Rattle.types.specs.declared.Computed.{Computed}
use Rattle.types.specs.declared.Prover.{Prover}
use Rattle.types.specs.declared.ProverStep.{ProverStep}
use Rattle.types.specs.declared.Round.{Round}
use Rattle.types.specs.declared.Verdict.{Verdict}
use Rattle.types.specs.declared.Verifier.{Verifier}
use Rattle.types.specs.declared.VerifierStep.{VerifierStep}
use Rattle.types.specs.declared.VerifierVerdict.{VerifierVerdict}

pub record RunCalls : Type 0 where
  -- rounds on a sheet
  pub judge_round : List ℕ → Round → Verdict
  pub simulate_commitment : List ℕ → ℕ → List ℕ → Computed
  pub extract_witness : List ℕ → Round → Round → Computed
  -- Peggy
  pub new_prover : Prover
  pub commit : List ℕ → Prover → List ℕ → ProverStep
  pub respond : List ℕ → Prover → ℕ → List ℕ → ProverStep
  pub drop_session : Prover → ProverStep
  pub save : Prover → ℕ → ProverStep
  pub return_to : Prover → ℕ → ProverStep
  -- Vic
  pub new_verifier : Verifier
  pub take_commitment : List ℕ → Verifier → List ℕ → VerifierStep
  pub take_challenge : List ℕ → Verifier → ℕ → VerifierStep
  pub take_response : List ℕ → Verifier → List ℕ → VerifierVerdict
