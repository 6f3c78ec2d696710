-- `or_extractor::rounds::test_rounds` meets its contract: each return is a law of the rules of two rounds.
-- Assumes nothing.
use mathlib.Core.Path.{refl, sym, ◌∙◌}
use native.Mathlib.Omega.{arith}
use Rattle.std.proofs.lemmas.Result.{err_from_is_err_and}
use Rattle.rules.proofs.Lowest.{pass, stop, lowest_clear}
use Rattle.refusals.proofs.Positive.{number_positive}
use Rattle.disjunctions.specs.Extractor.{extracting_or}
use Rattle.or_extractor.proofs.RoundsTests.{challenges_apart, challenges_same, differences_read, rounds_left, rounds_lower}
use Rattle.or_extractor.proofs.rounds.test_rounds.Goals as goal

pub returns-in_err-both : goal.returns-in_err-both
returns-in_err-both c = λ entries entries' z z'.
    let passed_on = err_from_is_err_and c.from_residual.result c.from_residual.ensures.1 in
    rw (passed_on.1, passed_on.2)
    (rounds_lower _ _ _ _ c.in_err-both.ensures.number (c.test_round.ensures entries entries' z z')
    (c.test_round-2.ensures entries entries' z z') (λ e. omega (arith, e, number_positive c.in_err-both.field-0.0)))

pub returns-then-commitments_differ : goal.returns-then-commitments_differ
unfolding extracting_or
returns-then-commitments_differ c = λ entries entries' z z'.
    sym (rounds_left _ _ _ _ c.in_ok-both.ensures.number (c.test_round.ensures entries entries' z z')
    (c.test_round-2.ensures entries entries' z z') refl
    ∙ stop 18 _ (differences_read _ _ _ _ ∙ sym c.commitments_differ.ensures ∙ c.if-commitments_differ.true))

pub returns-then-a-b : goal.returns-then-a-b
unfolding extracting_or
returns-then-a-b c = λ entries entries' z z'.
    sym (rounds_left _ _ _ _ c.in_ok-both.ensures.number (c.test_round.ensures entries entries' z z')
    (c.test_round-2.ensures entries entries' z z') refl
    ∙ pass 18 _ (differences_read _ _ _ _ ∙ sym c.commitments_differ.ensures ∙ c.if-commitments_differ.false)
    ∙ stop 19 _ (challenges_same _ _ _ _ c.if-a-b.true))

pub returns : goal.returns
unfolding extracting_or
returns c = λ entries entries' z z'.
    sym (rounds_left _ _ _ _ c.in_ok-both.ensures.number (c.test_round.ensures entries entries' z z')
    (c.test_round-2.ensures entries entries' z z') refl
    ∙ lowest_clear _ (differences_read _ _ _ _ ∙ sym c.commitments_differ.ensures ∙ c.if-commitments_differ.false, (challenges_apart _ _ _ _ c.if-a-b.false, tt)))
