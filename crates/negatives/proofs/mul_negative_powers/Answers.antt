-- `negatives::mul_negative_powers` meets its contract: each kind has its law.
-- Assumes nothing.
use Rattle.negatives.proofs.Exponents.{negative_by_order, negative_by_inverses}
use Rattle.negatives.proofs.mul_negative_powers.Goals as goal

pub returns-then-h-eq1 : goal.returns-then-h-eq1
returns-then-h-eq1 c =
    let (big, some, within, few, elements) = c.requires in
    negative_by_order _ _ _ _ _ big some within elements c.if-h-eq1.true c.mul_powers.ensures

pub returns : goal.returns
returns c = negative_by_inverses _ _ _ _ _ c.inverses.ensures c.mul_powers-2.ensures
