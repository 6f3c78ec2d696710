use native.Mathlib.Omega.{arith}
use Rattle.lists.proofs.Filling.{filled_start, filled_turn, filled_eight}
use Rattle.extractor.specs.Coefficients.{slot_formulas}
use Rattle.extractor.proofs.Coefficients.{left_is}
use Rattle.extractor.proofs.Slots.{formula_filled}
use Rattle.extractor.proofs.loaded.witness.Goals as goal

pub returns-then-side_by_side : goal.returns-then-side_by_side
returns-then-side_by_side c = λ entries.
    let is_inverse = c.inverse-b.ensures.value in
    formula_filled _ _ _ _ _ _ entries (left_is _ _ is_inverse) is_inverse c.root_slots.ensures

pub loop-j-init : goal.loop-j-init
loop-j-init c = filled_start (omega arith)

pub loop-j-preserved : goal.loop-j-preserved
loop-j-preserved c = filled_turn c.loop-j.invariant (omega arith) c.witness_slot.ensures

pub returns : goal.returns
unfolding slot_formulas
returns c = λ entries.
    let is_inverse = c.inverse-b.ensures.value in
    formula_filled _ _ _ _ _ _ entries (left_is _ _ is_inverse) is_inverse
    (filled_eight c.loop-j.invariant (omega arith))
