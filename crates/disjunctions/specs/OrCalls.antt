-- The calls of the OR proof (02, card 4): a field for each call, and no call's definition is named.
-- Assumes nothing.
use Rattle.std.specs.Prelude.{ℕ, List}
use Rattle.disjunctions.specs.declared.OrExtracted.{OrExtracted}
use Rattle.disjunctions.specs.declared.OrProver.{OrProver}
use Rattle.disjunctions.specs.declared.OrRound.{OrRound}
use Rattle.disjunctions.specs.declared.OrStep.{OrStep}
use Rattle.disjunctions.specs.declared.OrVerdict.{OrVerdict}

pub record OrCalls : Type 0 where
  -- two sheets and rounds
  pub judge_or : List ℕ → List ℕ → OrRound → OrVerdict
  pub extract_or : List ℕ → List ℕ → OrRound → OrRound → OrExtracted
  -- Peggy; committing takes two sheets, session, side, nonce, simulated challenge and simulated response
  pub new_or_prover : OrProver
  pub commit_or : List ℕ → List ℕ → OrProver → ℕ → List ℕ → ℕ → List ℕ → OrStep
  pub respond_or : List ℕ → List ℕ → OrProver → ℕ → List ℕ → OrStep
  pub drop_or : OrProver → OrStep
