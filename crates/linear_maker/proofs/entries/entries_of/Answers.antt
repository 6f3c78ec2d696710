use native.Mathlib.Omega.{arith}
use Rattle.lists.specs.Places.{eight_by_eight, zeros8}
use Rattle.lists.proofs.Filling.{filled_start, filled_turn, filled_eight}
use Rattle.linear_maker.specs.Plan.{linear_row}
use Rattle.linear_maker.proofs.entries.entries_of.Goals as goal

pub loop-i-init : goal.loop-i-init
loop-i-init c = filled_start (omega (arith, c.requires.few_rows))

pub row_of-requires : goal.row_of-requires
row_of-requires c = record { counted = c.requires; row = omega arith }

pub loop-i-preserved : goal.loop-i-preserved
loop-i-preserved c = filled_turn c.loop-i.invariant (omega arith) c.row_of.ensures

pub returns : goal.returns
unfolding eight_by_eight linear_row zeros8
returns c = filled_eight c.loop-i.invariant (omega arith)
