use native.Mathlib.Omega.{arith}
use Rattle.lists.proofs.Filling.{filled_start, filled_turn, filled_eight}
use Rattle.powers.specs.Places.{mul_powers}
use Rattle.sigma.specs.Instance.{statement_at}
use Rattle.sigma.specs.Round.{expected_image}
use Rattle.image.proofs.Slots.{product_reduced}
use Rattle.image.proofs.expected_image.Goals as goal

pub returns-then-side_by_side : goal.returns-then-side_by_side
unfolding expected_image statement_at mul_powers
returns-then-side_by_side c = λ entries. c.mul_powers.ensures

pub loop-i-init : goal.loop-i-init
loop-i-init c = filled_start (omega arith)

pub loop-i-preserved : goal.loop-i-preserved
loop-i-preserved c =
    filled_turn c.loop-i.invariant (omega arith)
    (product_reduced _ _ _ c.pow_mod.ensures.value c.mul_mod.ensures.value)

pub returns : goal.returns
unfolding expected_image statement_at
returns c = λ entries. filled_eight c.loop-i.invariant (omega arith)
