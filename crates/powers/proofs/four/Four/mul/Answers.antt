-- `powers::four::Four::mul` meets its contract: each of the four is one product.
-- Assumes nothing.
use Rattle.lists.specs.Places.{items_at, tabulate}
use Rattle.powers.specs.Places.{lanes, products_of}
use Rattle.powers.proofs.four.Four.mul.Goals as goal

pub returns : goal.returns
unfolding lanes products_of tabulate items_at
returns c =
    rw (
      c.mul.ensures,
      c.mul-2.ensures,
      c.mul-3.ensures,
      c.mul-4.ensures,
    )
