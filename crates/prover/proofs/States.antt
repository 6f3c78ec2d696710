-- Which states a `let .. else` or an arm of a match turns back: a session in another state does not have the one
-- that the call asks for. The code tells a state by a number, its place in 01's sentence from 0.
-- Assumes nothing.
use mathlib.Core.Path.{◌≡◌}
use mathlib.Core.Bool.{true, false, not, ◌||◌}
use mathlib.Core.Logic.{◌≢◌, ◌⊎◌, ⊎_elim}
use Rattle.types.specs.declared.Prover.{Prover}
use Rattle.types.specs.declared.ProverPhase.TheVariants.{New, Committed, Answered, Dropped}
use Rattle.rules.proofs.Says.{says_not, says_or}
use Rattle.sigma.proofs.Calculus.{says_passes}
use Rattle.runs.specs.Prover.{prover_in, prover_state}
use Rattle.runs.proofs.Tests.{says_prover}

module _ (p : Prover) where
  -- not New
  pub not_new : p.phase ≢ New → not (prover_in New p) ≡ true
  not_new other = (says_not (says_prover New p)).complete other

  -- not Committed
  pub not_committed : p.phase ≢ Committed → not (prover_in Committed p) ≡ true
  not_committed other = (says_not (says_prover Committed p)).complete other

  -- Answered or Dropped cannot be dropped
  pub not_started : (p.phase ≡ Answered) ⊎ (p.phase ≡ Dropped) → not (prover_in New p || prover_in Committed p) ≡ true
  unfolding prover_in prover_state
  not_started told = ⊎_elim (λ e. rw e) (λ e. rw e) told

  -- New or Committed can
  pub is_started : (p.phase ≡ New) ⊎ (p.phase ≡ Committed) → not (prover_in New p || prover_in Committed p) ≡ false
  is_started told = (says_passes (says_or (says_prover New p) (says_prover Committed p))).1 told
