-- `instance::shape::bad_count` meets its contract: a K within its bounds is bad exactly if a divisor is found.
-- Assumes nothing.
use mathlib.Core.Path.{◌∙◌}
use native.Mathlib.Omega.{arith}
use borrow.Author.Tests.{lt-ltb, le-ltb}
use Rattle.sigma.specs.Admission.{bad_count}
use Rattle.modular.proofs.FirstDivisor.{divisor_outcome_injective}
use Rattle.instance.proofs.FixedFields.{count_searched}
use Rattle.instance.proofs.shape.bad_count.Goals as goal

pub returns-then-h-lt2 : goal.returns-then-h-lt2
unfolding bad_count
returns-then-h-lt2 c = rw (lt-ltb _ 2 c.if-h-lt2.true)

pub returns-then-h-gt-MOST_CHALLENGES : goal.returns-then-h-gt-MOST_CHALLENGES
unfolding bad_count
returns-then-h-gt-MOST_CHALLENGES c =
    let h = c.args.h in
    rw (le-ltb h.challenges 2 (omega arith), lt-ltb 65536 h.challenges (omega arith))

pub returns : goal.returns
returns c =
    c.is_some.ensures ∙ count_searched _ _ (omega arith) (omega arith) (divisor_outcome_injective _ _ c.first_divisor.ensures)
