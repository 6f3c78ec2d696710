-- `solver::candidates::count_of` meets its contract.
-- Assumes nothing.
use mathlib.Core.Path.{sym, ◌∙◌}
use native.Mathlib.Omega.{arith}
use Rattle.solver.proofs.Counting.{count_exponent, count_root}
use Rattle.solver.proofs.candidates.count_of.Goals as goal

pub returns-then-h-ne1 : goal.returns-then-h-ne1
returns-then-h-ne1 c = sym (count_root _ c.if-h-ne1.true)

pub returns : goal.returns
returns c = c.pow.ensures ∙ sym (count_exponent c.args.h (omega (arith, c.if-h-ne1.false)))
