use native.Mathlib.Omega.{arith}
use Rattle.lists.proofs.Filling.{filled_start, filled_turn, filled_items}
use Rattle.fields.proofs.read_words.Goals as goal

pub loop-i-init : goal.loop-i-init
loop-i-init c = filled_start (omega arith)

pub loop-i-preserved : goal.loop-i-preserved
loop-i-preserved c = filled_turn c.loop-i.invariant (omega arith) c.read_u32.ensures.value

pub returns : goal.returns
returns c = record { value = filled_items _ _ 4 c.loop-i.invariant (omega arith) }
