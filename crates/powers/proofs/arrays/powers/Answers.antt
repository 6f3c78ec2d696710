-- `powers::arrays::powers` meets its contract: the powers of eight, or of one four.
-- Assumes nothing.
use Rattle.lists.specs.Places.{items_at, tabulate}
use Rattle.powers.specs.Places.{lanes, powers_of}
use Rattle.powers.proofs.Lanes.{one_four}
use Rattle.powers.proofs.arrays.powers.Goals as goal

pub returns : goal.returns
unfolding lanes powers_of tabulate items_at
returns c = one_four _ _ _ c.if-n-gt4.false (simp (c.new-by.ensures, c.at.ensures) at c.pow-low.ensures)
