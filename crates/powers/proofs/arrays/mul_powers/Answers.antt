-- `powers::arrays::mul_powers` meets its contract: a power may be reduced before it is multiplied.
-- Assumes nothing.
use mathlib.Core.Path.{ap, ◌∙◌}
use Rattle.lists.specs.Places.{pad8}
use Rattle.powers.proofs.Places.{products_powers}
use Rattle.powers.proofs.arrays.mul_powers.Goals as goal

pub returns : goal.returns
returns c = c.products.ensures ∙ ap (pad8 0) (products_powers _ _ _ _ _ c.powers.ensures _)
