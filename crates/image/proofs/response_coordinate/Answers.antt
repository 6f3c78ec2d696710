-- `image::response_coordinate` meets its contract: the sum fits 64 bits, and each kind has its law.
-- Assumes nothing.
use Rattle.image.proofs.Slots.{response_exponent, response_root}
use Rattle.image.proofs.response_coordinate.Goals as goal

pub returns-then-h-eq1 : goal.returns-then-h-eq1
returns-then-h-eq1 c = response_exponent _ _ _ _ c.if-h-eq1.true

pub returns : goal.returns
returns c = response_root _ _ _ _ c.if-h-eq1.false c.pow_mod.ensures.value c.mul_mod.ensures.value
