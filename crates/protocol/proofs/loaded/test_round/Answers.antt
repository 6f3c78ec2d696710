-- `protocol::loaded::test_round` meets its contract: each return is a law of the three refusals.
-- Assumes nothing.
use mathlib.Core.Path.{sym, ◌∙◌}
use native.Mathlib.Omega.{arith}
use Rattle.rules.specs.Call.{number_of}
use Rattle.rules.proofs.Lowest.{pass, stop, lowest_clear}
use Rattle.sigma.specs.Judge.{judging}
use Rattle.sigma.proofs.Passed.{challenge_passes}
use Rattle.sigma.proofs.Tests.{says_bad_challenge}
use Rattle.image.proofs.Tested.{commitment_read, coordinates_read}
use Rattle.protocol.proofs.loaded.test_round.Goals as goal

pub returns-then-some_non_element : goal.returns-then-some_non_element
unfolding judging number_of
returns-then-some_non_element c = λ entries statement.
    sym (stop 14 _ (commitment_read _ _ ∙ sym c.some_non_element.ensures ∙ c.if-some_non_element.true))

pub returns-then-challenge-h : goal.returns-then-challenge-h
unfolding judging number_of
returns-then-challenge-h c = λ entries statement.
    sym (pass 14 _ (commitment_read _ _ ∙ sym c.some_non_element.ensures ∙ c.if-some_non_element.false)
    ∙ stop 15 _ ((says_bad_challenge _ _).complete (omega (arith, c.if-challenge-h.true))))

pub returns-then-some_non_coordinate : goal.returns-then-some_non_coordinate
unfolding judging number_of
returns-then-some_non_coordinate c = λ entries statement.
    sym (pass 14 _ (commitment_read _ _ ∙ sym c.some_non_element.ensures ∙ c.if-some_non_element.false)
    ∙ pass 15 _ ((challenge_passes _ _).1 (omega (arith, c.if-challenge-h.false)))
    ∙ stop 16 _ (coordinates_read _ _ ∙ sym c.some_non_coordinate.ensures ∙ c.if-some_non_coordinate.true))

pub returns : goal.returns
unfolding judging number_of
returns c = λ entries statement.
    sym (lowest_clear _ (
      commitment_read _ _ ∙ sym c.some_non_element.ensures ∙ c.if-some_non_element.false,
      (
        (challenge_passes _ _).1 (omega (arith, c.if-challenge-h.false)),
        (coordinates_read _ _ ∙ sym c.some_non_coordinate.ensures ∙ c.if-some_non_coordinate.false, tt),
      ),
    ))
