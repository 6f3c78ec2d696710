-- `pairs::Pair::load` meets its contract: the lower number of both sheets comes before that of their challenge counts.
-- Assumes nothing.
use mathlib.Core.Path.{refl}
use native.Mathlib.Omega.{arith}
use Rattle.std.proofs.lemmas.Result.{err_from_is_err_and}
use Rattle.refusals.proofs.Positive.{number_positive}
use Rattle.pairs.proofs.PairNumber.{pair_counts, pair_lower, pair_passed}
use Rattle.pairs.proofs.Pair.load.Goals as goal

pub returns-in_err-first-clause-number : goal.returns-in_err-first-clause-number
returns-in_err-first-clause-number c =
    let passed_on = err_from_is_err_and c.from_residual.result c.from_residual.ensures.1 in
    rw (passed_on.1, passed_on.2)
    (pair_lower _ _ c.load.ensures.number c.load-2.ensures.number c.in_err-first.ensures.number
    (λ e. omega (arith, e, number_positive c.in_err-first.field-0.0)))

pub returns-then-first-second-clause-number : goal.returns-then-first-second-clause-number
returns-then-first-second-clause-number c =
    let held = c.in_ok-first.ensures.values in
    pair_counts _ _ c.load.ensures.number c.load-2.ensures.number c.in_ok-first.ensures.number refl
    (rw held.0 at c.load.ensures.values) (rw held.1 at c.load-2.ensures.values) (omega (arith, c.if-first-second.true))

pub returns-clause-number : goal.returns-clause-number
returns-clause-number c =
    let held = c.in_ok-first.ensures.values in
    pair_passed _ _ c.load.ensures.number c.load-2.ensures.number c.in_ok-first.ensures.number refl
    (rw held.0 at c.load.ensures.values) (rw held.1 at c.load-2.ensures.values) (omega (arith, c.if-first-second.false))
