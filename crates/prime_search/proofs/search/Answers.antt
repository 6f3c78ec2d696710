use mathlib.Core.Path.{◌∙◌, ap}
use native.Mathlib.Omega.{arith}
use Rattle.modular.specs.Divisor.{divisor_outcome}
use Rattle.prime_search.proofs.Passing.{passed_start, good_here, passed_on}
use Rattle.prime_search.proofs.Shares.{fifth_last}
use Rattle.prime_search.proofs.Answers.{answer_found, answer_end, answer_past, answer_root}
use Rattle.prime_search.proofs.search.Goals as goal

pub loop-i-init : goal.loop-i-init
loop-i-init c = passed_start _ _ c.requires.2

pub in_word-requires : goal.in_word-requires
in_word-requires c =
    let passed = c.loop-i.invariant in (
      good_here _ c.requires.0 _ _ _ _ (omega (arith, c.loop-i-test.true)) passed,
      passed.large,
      passed.small,
      c.unpack-five.ensures,
      c.bound-most.ensures,
      passed.none,
    )

pub loop-i-preserved : goal.loop-i-preserved
loop-i-preserved c =
    passed_on _ c.requires.0 _ _ _ _ _ _ (omega (arith, c.loop-i-test.true)) c.loop-i.invariant
    (fifth_last _ _ _ c.unpack-five.ensures) c.bound-most.ensures (c.in_word.ensures.nothing c.in_default.is)

pub returns : goal.returns
returns c =
    ap divisor_outcome (c.within-2.ensures ∙
    answer_end _ c.requires.0 _ _ _ _ _ c.requires.1 c.ranges.order.fits (omega (arith, c.loop-i-test.false)) c.loop-i.invariant)

pub returns-then-challenges-a : goal.returns-then-challenges-a
returns-then-challenges-a c = ap divisor_outcome (answer_past _ _ _ c.if-challenges-a.true c.loop-i.invariant.none)

pub returns-then-most-a : goal.returns-then-most-a
returns-then-most-a c =
    let passed = c.loop-i.invariant in
    ap divisor_outcome (c.within.ensures ∙
    answer_root _ _ _ c.requires.1 (omega (arith, passed.large))
    (omega (arith, c.bound-most.ensures, c.if-most-a.true)) passed.none)

pub returns-in-Some : goal.returns-in-Some
returns-in-Some c = ap divisor_outcome (c.within-in-Some.ensures ∙ answer_found _ _ _ _ c.in-Some.is c.in_word.ensures)
