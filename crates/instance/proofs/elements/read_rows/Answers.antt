use mathlib.Core.Path.{◌∙◌}
use native.Mathlib.Omega.{arith}
use Rattle.lists.specs.Places.{eight_by_eight, zeros8}
use Rattle.lists.proofs.Filling.{filled_start, filled_turn, filled_eight}
use Rattle.instance.specs.Rows.{rows_at}
use Rattle.instance.proofs.SheetRows.{row_words}
use Rattle.instance.proofs.elements.read_rows.Goals as goal

pub loop-i-init : goal.loop-i-init
loop-i-init c = filled_start (omega arith)

pub loop-i-preserved : goal.loop-i-preserved
loop-i-preserved c =
    filled_turn c.loop-i.invariant (omega arith) (c.read_words-row.ensures.value ∙ row_words _ _ _)

pub returns : goal.returns
unfolding rows_at eight_by_eight zeros8
returns c = filled_eight c.loop-i.invariant (omega arith)
