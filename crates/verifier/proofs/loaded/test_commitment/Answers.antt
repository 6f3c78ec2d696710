-- `verifier::loaded::test_commitment` meets its contract: each return is a law of the two rules.
-- Assumes nothing.
use mathlib.Core.Path.{sym, ◌∙◌}
use Rattle.rules.specs.Call.{number_of}
use Rattle.rules.proofs.Lowest.{pass, stop, lowest_clear}
use Rattle.sigma.proofs.Calculus.{says_passes}
use Rattle.types.specs.declared.VerifierPhase.TheVariants.{Waiting}
use Rattle.runs.specs.Verifier.{taking_commitment}
use Rattle.runs.proofs.Tests.{says_verifier}
use Rattle.verifier.proofs.States.{not_waiting}
use Rattle.verifier.proofs.loaded.test_commitment.Goals as goal

pub returns-then-bad_commitment : goal.returns-then-bad_commitment
unfolding taking_commitment number_of
returns-then-bad_commitment c = λ entries statement.
    sym (stop 14 _ (sym (c.bad_commitment.ensures entries statement) ∙ c.if-bad_commitment.true))

pub returns-in_default : goal.returns-in_default
unfolding taking_commitment number_of
returns-in_default c = λ entries statement.
    sym (pass 14 _ (sym (c.bad_commitment.ensures entries statement) ∙ c.if-bad_commitment.false)
    ∙ stop 21 _ (not_waiting _ c.in_default.not-Waiting))

pub returns : goal.returns
unfolding taking_commitment number_of
returns c = λ entries statement.
    sym (lowest_clear _ (
      sym (c.bad_commitment.ensures entries statement) ∙ c.if-bad_commitment.false,
      ((says_passes (says_verifier Waiting _)).1 c.in-Waiting.is, tt),
    ))
