-- `image::image_rows` meets its contract: in kind 1 the products of powers, in kind 2 the powers of the slots.
-- Assumes nothing.
use Rattle.image.proofs.Several.{products_image, powers_image}
use Rattle.image.proofs.image_rows.Goals as goal

pub returns-then-h-ne1 : goal.returns-then-h-ne1
returns-then-h-ne1 c =
    powers_image _ _ _ _ c.if-h-ne1.true c.powers.ensures c.first_places.ensures

pub returns : goal.returns
returns c =
    products_image _ _ _ _ c.if-h-ne1.false c.multi_powers.ensures c.first_places-2.ensures
