-- `image::verdict` meets its contract: comparing the two sides in eight places is comparing the values that are read. Rows that
-- are not side by side are three at most, and each marks its bit. Assumes nothing.
use mathlib.Core.Path.{refl}
use native.Mathlib.Omega.{arith}
use Rattle.sigma.specs.Instance.{statement_at}
use Rattle.instance.specs.Values.{values_of}
use Rattle.comparison.proofs.Masks.{marked_none}
use Rattle.image.proofs.Slots.{product_reduced}
use Rattle.image.proofs.Unread.{alone_agrees, alone_differs, few_beside, rows_on, verdict_compared, verdict_marked}
use Rattle.image.proofs.verdict.Goals as goal

pub returns-then-side_by_side : goal.returns-then-side_by_side
returns-then-side_by_side c =
    let sheet = c.args.sheet.now in
    let left = c.image.ensures in
    let right = c.expected_image.ensures sheet.entries in
    verdict_compared (values_of sheet) sheet.valid _ _ _ left right c.compare.ensures

pub returns-then-left-right : goal.returns-then-left-right
unfolding statement_at
returns-then-left-right c =
    let sheet = c.args.sheet.now in
    alone_differs (values_of sheet) _ _ _ sheet.valid c.if-rows-eq1.true (c.row_product-left.ensures _ refl)
    (product_reduced _ _ _ c.pow_mod.ensures.value c.mul_mod-right.ensures.value) c.if-left-right.true

pub returns-then-rows-eq1 : goal.returns-then-rows-eq1
unfolding statement_at
returns-then-rows-eq1 c =
    let sheet = c.args.sheet.now in
    alone_agrees (values_of sheet) _ _ _ sheet.valid c.if-rows-eq1.true (c.row_product-left.ensures _ refl)
    (product_reduced _ _ _ c.pow_mod.ensures.value c.mul_mod-right.ensures.value) c.if-left-right.false

pub returns-then-rows-eq2 : goal.returns-then-rows-eq2
unfolding statement_at
returns-then-rows-eq2 c =
    let sheet = c.args.sheet.now in
    let inst = values_of sheet in
    verdict_marked inst _ _ _ sheet.valid 2 _ 4 (omega (arith, c.if-rows-eq2.true))
    (rows_on inst _ _ _ 1 _ 2 (omega (arith, c.if-rows-eq2.true)) (c.row_product-left-2.ensures _ refl)
    (product_reduced _ _ _ c.pow_mod-2.ensures.value c.mul_mod-right-2.ensures.value) c.marked-second.ensures
    (rows_on inst _ _ _ 0 0 1 (omega (arith, c.if-rows-eq2.true)) (c.row_product-left.ensures _ refl)
    (product_reduced _ _ _ c.pow_mod.ensures.value c.mul_mod-right.ensures.value) c.marked-first.ensures
    (marked_none _ _ _)))
    c.verdict_of.ensures

pub returns : goal.returns
unfolding statement_at
returns c =
    let sheet = c.args.sheet.now in
    let inst = values_of sheet in
    let some = sheet.valid.table.some_row in
    verdict_marked inst _ _ _ sheet.valid 3 _ 8 (few_beside sheet.header.rows sheet.header.modulus c.side_by_side.ensures c.if-side_by_side.false)
    (rows_on inst _ _ _ 2 _ 4 (omega (arith, some, c.if-rows-eq1.false, c.if-rows-eq2.false)) (c.row_product-left-3.ensures _ refl)
    (product_reduced _ _ _ c.pow_mod-3.ensures.value c.mul_mod-right-3.ensures.value) c.marked.ensures
    (rows_on inst _ _ _ 1 _ 2 (omega (arith, some, c.if-rows-eq1.false)) (c.row_product-left-2.ensures _ refl)
    (product_reduced _ _ _ c.pow_mod-2.ensures.value c.mul_mod-right-2.ensures.value) c.marked-second.ensures
    (rows_on inst _ _ _ 0 0 1 (omega (arith, some)) (c.row_product-left.ensures _ refl)
    (product_reduced _ _ _ c.pow_mod.ensures.value c.mul_mod-right.ensures.value) c.marked-first.ensures
    (marked_none _ _ _))))
    c.verdict_of-2.ensures
