-- `maker::make_root` meets its contract: behind the tests of the two counts it is the second writer on the root's values.
-- Assumes nothing.
use mathlib.Core.Logic.{inl, inr}
use Rattle.lists.specs.Places.{zeros8}
use Rattle.formats.specs.Sheet.{zeros64}
use Rattle.maker.proofs.Answers.{root_refused, root_written}
use Rattle.maker.proofs.make_root.Goals as goal

pub returns-then-values-ne0-clause-answer : goal.returns-then-values-ne0-clause-answer
returns-then-values-ne0-clause-answer c = (root_refused _ _ _ _ _ _ (inl c.if-values-ne0.true)).0

pub returns-then-values-ne0-clause-left : goal.returns-then-values-ne0-clause-left
returns-then-values-ne0-clause-left c = (root_refused _ _ _ _ _ _ (inl c.if-values-ne0.true)).1

pub returns-then-statement-ne1-clause-answer : goal.returns-then-statement-ne1-clause-answer
returns-then-statement-ne1-clause-answer c = (root_refused _ _ _ _ _ _ (inr c.if-statement-ne1.true)).0

pub returns-then-statement-ne1-clause-left : goal.returns-then-statement-ne1-clause-left
returns-then-statement-ne1-clause-left c = (root_refused _ _ _ _ _ _ (inr c.if-statement-ne1.true)).1

pub returns-clause-answer : goal.returns-clause-answer
unfolding zeros64 zeros8
returns-clause-answer c = (root_written _ _ _ _ _ _ c.if-values-ne0.false c.if-statement-ne1.false c.eight_of.ensures (c.try_encode.ensures.answer, c.try_encode.ensures.left)).0

pub returns-clause-left : goal.returns-clause-left
unfolding zeros64 zeros8
returns-clause-left c = (root_written _ _ _ _ _ _ c.if-values-ne0.false c.if-statement-ne1.false c.eight_of.ensures (c.try_encode.ensures.answer, c.try_encode.ensures.left)).1
