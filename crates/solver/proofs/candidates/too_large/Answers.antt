-- `solver::candidates::too_large` meets its contract. Assumes nothing.
use borrow.Author.Tests.{le-ltb, lt-ltb}
use mathlib.Core.Path.{◌∙◌}
use native.Mathlib.Omega.{arith}
use Rattle.solver.proofs.Sizes.{game_exponent, game_neither, game_root}
use Rattle.solver.proofs.candidates.too_large.Goals as goal

pub returns-in-1 : goal.returns-in-1
returns-in-1 c = c.power_exceeds.ensures ∙ game_exponent _ c.in-1.is

pub returns-in_default : goal.returns-in_default
returns-in_default c = game_neither _ (omega arith) (omega arith)

pub returns-then-h-gt4096 : goal.returns-then-h-gt4096
returns-then-h-gt4096 c =
    lt-ltb _ _ c.if-h-gt4096.true ∙ (rw (lt-ltb _ _ c.if-h-gt4096.true) at (game_root c.args.h c.in-2.is))

pub returns-else-h-gt4096 : goal.returns-else-h-gt4096
returns-else-h-gt4096 c =
    rw (le-ltb _ _ c.if-h-gt4096.false) at (game_root c.args.h c.in-2.is)
