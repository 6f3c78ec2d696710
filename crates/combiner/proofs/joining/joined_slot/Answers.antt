-- `combiner::joining::joined_slot` meets its contract: each kind has its law.
-- Assumes nothing.
use mathlib.Core.Path.{◌∙◌}
use Rattle.combiner.proofs.Turns.{slot_product, slot_sum}
use Rattle.combiner.proofs.joining.joined_slot.Goals as goal

pub returns-then-h-eq1 : goal.returns-then-h-eq1
returns-then-h-eq1 c =
    rw c.from.ensures (slot_sum c.args.h _ _ _ c.if-h-eq1.true c.sum_at.ensures)

pub returns : goal.returns
returns c = c.product_at.ensures ∙ slot_product _ _ _ _ c.if-h-eq1.false
