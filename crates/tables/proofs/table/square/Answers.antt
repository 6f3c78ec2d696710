use mathlib.Core.Path.{refl}
use native.Mathlib.Omega.{arith}
use Rattle.lists.proofs.Filling.{filled_start, filled_turn, filled_whole}
use Rattle.tables.specs.Flat.{square}
use Rattle.tables.proofs.table.square.Goals as goal

pub loop-i-init : goal.loop-i-init
loop-i-init c = filled_start (omega arith)

pub loop-i-preserved : goal.loop-i-preserved
loop-i-preserved c = filled_turn c.loop-i.invariant (omega arith) c.row.ensures

pub returns : goal.returns
unfolding square
returns c = filled_whole c.loop-i.invariant (omega arith) refl
