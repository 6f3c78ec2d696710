use mathlib.Core.Path.{refl}
use native.Mathlib.Omega.{arith}
use Rattle.lists.proofs.Filling.{filled_start, filled_turn, filled_whole}
use Rattle.tables.specs.Flat.{flat, flat_at}
use Rattle.tables.proofs.table.flat.Goals as goal

pub loop-k-init : goal.loop-k-init
loop-k-init c = filled_start (omega arith)

pub loop-k-preserved : goal.loop-k-preserved
unfolding flat_at
loop-k-preserved c = filled_turn c.loop-k.invariant (omega arith) refl

pub returns : goal.returns
unfolding flat
returns c = filled_whole c.loop-k.invariant (omega arith) refl
