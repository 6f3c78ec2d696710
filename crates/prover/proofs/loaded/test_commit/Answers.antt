-- `prover::loaded::test_commit` meets its contract: each return is a law of the refusals of committing.
-- Assumes nothing.
use mathlib.Core.Path.{sym, ◌∙◌}
use Rattle.rules.specs.Call.{number_of}
use Rattle.rules.proofs.Lowest.{pass, stop, lowest_clear}
use Rattle.types.specs.declared.ProverPhase.TheVariants.{New}
use Rattle.sigma.proofs.Calculus.{says_passes}
use Rattle.runs.specs.Prover.{committing}
use Rattle.runs.proofs.Tests.{says_prover}
use Rattle.image.proofs.Tested.{coordinates_read}
use Rattle.prover.proofs.States.{not_new}
use Rattle.prover.proofs.loaded.test_commit.Goals as goal

pub returns-then-some_non_coordinate : goal.returns-then-some_non_coordinate
unfolding committing number_of
returns-then-some_non_coordinate c = λ entries statement m.
    sym (stop 16 _ (coordinates_read _ _ ∙ sym c.some_non_coordinate.ensures ∙ c.if-some_non_coordinate.true))

pub returns-in_default : goal.returns-in_default
unfolding committing number_of
returns-in_default c = λ entries statement m.
    sym (pass 16 _ (coordinates_read _ _ ∙ sym c.some_non_coordinate.ensures ∙ c.if-some_non_coordinate.false)
    ∙ stop 21 _ (not_new _ c.in_default.not-New))

pub returns : goal.returns
unfolding committing number_of
returns c = λ entries statement m.
    sym (lowest_clear _ (
      coordinates_read _ _ ∙ sym c.some_non_coordinate.ensures ∙ c.if-some_non_coordinate.false,
      ((says_passes (says_prover New _)).1 c.in-New.is, tt),
    ))
