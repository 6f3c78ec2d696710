-- Which states a `let .. else` turns back: a session in another state does not have the one that the call asks for.
-- Assumes nothing.
use mathlib.Core.Path.{◌≡◌}
use mathlib.Core.Bool.{true, not}
use mathlib.Core.Logic.{◌≢◌}
use Rattle.types.specs.declared.Verifier.{Verifier}
use Rattle.types.specs.declared.VerifierPhase.TheVariants.{Waiting, Holding, Asked}
use Rattle.rules.proofs.Says.{says_not}
use Rattle.runs.specs.Verifier.{verifier_in}
use Rattle.runs.proofs.Tests.{says_verifier}

module _ (v : Verifier) where
  -- not Waiting
  pub not_waiting : v.phase ≢ Waiting → not (verifier_in Waiting v) ≡ true
  not_waiting other = (says_not (says_verifier Waiting v)).complete other

  -- not Holding
  pub not_holding : v.phase ≢ Holding → not (verifier_in Holding v) ≡ true
  not_holding other = (says_not (says_verifier Holding v)).complete other

  -- not Asked
  pub not_asked : v.phase ≢ Asked → not (verifier_in Asked v) ≡ true
  not_asked other = (says_not (says_verifier Asked v)).complete other
