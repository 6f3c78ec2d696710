-- `pairs::lower` meets its contract: each return is a branch of the definition.
-- Assumes nothing.
use borrow.Author.Tests.{eq-eqb, ne_eqb, lt-ltb, le-ltb}
use Rattle.rules.proofs.Either.{lower_of}
use Rattle.pairs.proofs.lower.Goals as goal

pub returns-then-a-eq0 : goal.returns-then-a-eq0
unfolding lower_of
returns-then-a-eq0 c = simp (eq-eqb _ _ c.if-a-eq0.true)

pub returns-then-b-eq0 : goal.returns-then-b-eq0
unfolding lower_of
returns-then-b-eq0 c = simp (ne_eqb _ _ c.if-a-eq0.false, eq-eqb _ _ c.if-b-eq0.true)

pub returns-then-b-a : goal.returns-then-b-a
unfolding lower_of
returns-then-b-a c = simp (ne_eqb _ _ c.if-a-eq0.false, ne_eqb _ _ c.if-b-eq0.false, lt-ltb _ _ c.if-b-a.true)

pub returns : goal.returns
unfolding lower_of
returns c = simp (ne_eqb _ _ c.if-a-eq0.false, ne_eqb _ _ c.if-b-eq0.false, le-ltb _ _ c.if-b-a.false)
