use mathlib.Core.Path.{refl}
use native.Mathlib.Omega.{arith}
use Rattle.lists.proofs.Filling.{filled_start, filled_turn, filled_whole}
use Rattle.tables.specs.Flat.{square_at, square_row}
use Rattle.tables.proofs.table.row.Goals as goal

pub loop-j-init : goal.loop-j-init
loop-j-init c = filled_start (omega arith)

pub loop-j-preserved : goal.loop-j-preserved
unfolding square_at
loop-j-preserved c = filled_turn c.loop-j.invariant (omega arith) refl

pub returns : goal.returns
unfolding square_row
returns c = filled_whole c.loop-j.invariant (omega arith) refl
