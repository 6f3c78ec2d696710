-- `primes::first_divisor` meets its contract: the table passes the test of a table, which antt computes.
-- Assumes nothing.
use mathlib.Core.Path.{refl, ◌∙◌, ap}
use native.Mathlib.Omega.{arith}
use Rattle.modular.specs.Divisor.{divisor_outcome}
use Rattle.prime_words.specs.Words.{next, last, product, inverse}
use Rattle.prime_words.specs.Words.{both, either, small, is_factor, has_factor, all_factored, clear, all_clear, is_good, all_good}
use Rattle.prime_search.proofs.Answers.{answer_two, answer_three, none_below_four}
use Rattle.primes.proofs.first_divisor.Goals as goal

pub returns-then-order-eq0 : goal.returns-then-order-eq0
returns-then-order-eq0 c = ap divisor_outcome (c.within.ensures ∙ answer_two _ _ c.if-order-eq0.true)

pub returns-then-order-eq0-2 : goal.returns-then-order-eq0-2
returns-then-order-eq0-2 c = ap divisor_outcome (c.within-then-order-eq0-2.ensures ∙ answer_three _ _ c.if-order-eq0.false c.if-order-eq0-2.true)

pub search-requires : goal.search-requires
unfolding all_good is_good all_clear clear all_factored has_factor is_factor small both either next last product inverse
search-requires c = ((tt, refl), omega arith, none_below_four _ c.if-order-eq0.false c.if-order-eq0-2.false)
