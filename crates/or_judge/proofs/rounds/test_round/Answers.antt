-- `or_judge::rounds::test_round` meets its contract: each return is a law of the three rules.
-- Assumes nothing.
use mathlib.Core.Path.{sym, ◌∙◌}
use native.Mathlib.Omega.{arith}
use Rattle.rules.specs.Call.{number_of}
use Rattle.rules.proofs.Lowest.{pass, stop, lowest_clear}
use Rattle.disjunctions.specs.Judge.{judging_or}
use Rattle.or_judge.proofs.RoundTests.{challenges_pass, challenges_stop, commitments_read, responses_read}
use Rattle.or_judge.proofs.rounds.test_round.Goals as goal

pub returns-then-bad_commitments : goal.returns-then-bad_commitments
unfolding judging_or number_of
returns-then-bad_commitments c = λ entries entries' z z'.
    sym (stop 14 _ (commitments_read _ _ _ ∙ sym c.bad_commitments.ensures ∙ c.if-bad_commitments.true))

pub returns-then-round-first : goal.returns-then-round-first
unfolding judging_or number_of
returns-then-round-first c = λ entries entries' z z'.
    sym (pass 14 _ (commitments_read _ _ _ ∙ sym c.bad_commitments.ensures ∙ c.if-bad_commitments.false)
    ∙ stop 15 _ (challenges_stop _ _ _ c.then-round-first.either))

pub returns-then-bad_responses : goal.returns-then-bad_responses
unfolding judging_or number_of
returns-then-bad_responses c = λ entries entries' z z'.
    sym (pass 14 _ (commitments_read _ _ _ ∙ sym c.bad_commitments.ensures ∙ c.if-bad_commitments.false)
    ∙ pass 15 _ ((challenges_pass _ _ _).1 (omega (arith, c.if-round-first.false), omega (arith, c.if-round-first-2.false)))
    ∙ stop 16 _ (responses_read _ _ _ ∙ sym c.bad_responses.ensures ∙ c.if-bad_responses.true))

pub returns : goal.returns
unfolding judging_or number_of
returns c = λ entries entries' z z'.
    sym (lowest_clear _ (
      commitments_read _ _ _ ∙ sym c.bad_commitments.ensures ∙ c.if-bad_commitments.false,
      (
        (challenges_pass _ _ _).1 (omega (arith, c.if-round-first.false), omega (arith, c.if-round-first-2.false)),
        (responses_read _ _ _ ∙ sym c.bad_responses.ensures ∙ c.if-bad_responses.false, tt),
      ),
    ))
