-- `or_prover::loaded::test_commit` meets its contract: each return is a law of the rules of committing.
-- Assumes nothing.
use mathlib.Core.Path.{sym, ◌∙◌}
use Rattle.types.specs.declared.ProverPhase.TheVariants.{New}
use Rattle.rules.specs.Call.{number_of}
use Rattle.rules.proofs.Lowest.{pass, stop, lowest_clear}
use Rattle.sigma.proofs.Calculus.{says_passes}
use Rattle.sigma.proofs.Passed.{challenge_passes}
use Rattle.sigma.proofs.Tests.{says_bad_challenge}
use Rattle.disjunctions.specs.Prover.{committing_or}
use Rattle.disjunctions.proofs.SessionTests.{says_or_prover}
use Rattle.or_session.specs.Sides.{bad_slots}
use Rattle.or_session.proofs.States.{not_new}
use Rattle.or_prover.proofs.loaded.test_commit.Goals as goal

pub returns-then-challenge-first : goal.returns-then-challenge-first
unfolding committing_or number_of
returns-then-challenge-first c = λ entries entries' z z'. sym (stop 15 _ ((says_bad_challenge _ _).complete c.if-challenge-first.true))

pub returns-then-bad_slots : goal.returns-then-bad_slots
unfolding committing_or number_of bad_slots
returns-then-bad_slots c = λ entries entries' z z'.
    sym (pass 15 _ ((challenge_passes _ _).1 c.if-challenge-first.false)
    ∙ stop 16 _ (sym (c.bad_slots.ensures _ _ _ _) ∙ c.if-bad_slots.true))

pub returns-in_default : goal.returns-in_default
unfolding committing_or number_of bad_slots
returns-in_default c = λ entries entries' z z'.
    sym (pass 15 _ ((challenge_passes _ _).1 c.if-challenge-first.false)
    ∙ pass 16 _ (sym (c.bad_slots.ensures _ _ _ _) ∙ c.if-bad_slots.false)
    ∙ stop 21 _ (not_new _ c.in_default.not-New))

pub returns : goal.returns
unfolding committing_or number_of bad_slots
returns c = λ entries entries' z z'.
    sym (lowest_clear _ (
      (challenge_passes _ _).1 c.if-challenge-first.false,
      (
        sym (c.bad_slots.ensures _ _ _ _) ∙ c.if-bad_slots.false,
        ((says_passes (says_or_prover New _)).1 c.in-New.is, tt),
      ),
    ))
