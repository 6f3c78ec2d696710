use mathlib.Core.Path.{refl}
use native.Mathlib.Omega.{arith}
use Rattle.row_words.proofs.RowByRow.{told_all, told_none, told_on}
use Rattle.row_words.proofs.write_rows.Goals as goal

pub loop-row-init : goal.loop-row-init
loop-row-init c = (told_none _ _ _ _, refl)

pub loop-row-preserved : goal.loop-row-preserved
loop-row-preserved c =
    let (told, size) = c.loop-row.invariant in
    (told_on _ _ told (omega arith) c.write_row-next.ensures, omega arith)

pub returns : goal.returns
returns c = told_all _ _ c.loop-row.invariant.0 (omega arith)
