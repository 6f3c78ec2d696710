use mathlib.Core.Path.{◌≡◌, ◌∙◌}
use native.Mathlib.Omega.{arith}
use Rattle.image.proofs.RowImage.{row_start, row_turn, row_exponent, row_root}
use Rattle.image.proofs.row_product.Goals as goal

pub returns-then-h-ne1 : goal.returns-then-h-ne1
returns-then-h-ne1 c = λ entries is_row. c.pow_mod.ensures.value ∙ row_root _ _ _ c.if-h-ne1.true entries

pub loop-j-init : goal.loop-j-init
loop-j-init c = (omega arith, row_start _ _ _)

pub loop-j-preserved : goal.loop-j-preserved
loop-j-preserved c =
    (omega arith, row_turn _ _ _ _ c.loop-j.invariant.1 c.pow_mod-in-loop-j.ensures.value c.mul_mod-value.ensures.value)

pub returns : goal.returns
returns c =
    let all : c.loop-j.j ≡ c.args.h.columns = omega arith in
    λ entries is_row.
    (rw all at c.loop-j.invariant.1) ∙ row_exponent _ _ _ _ c.if-h-ne1.false entries is_row
