-- `modular::is_coordinate` meets its contract: each return is a law of the test.
-- Assumes nothing.
use mathlib.Core.Path.{◌∙◌}
use Rattle.modular.proofs.ElementTest.{coordinate_exponent, coordinate_root}
use Rattle.modular.proofs.is_coordinate.Goals as goal

pub returns-then-h-eq1 : goal.returns-then-h-eq1
returns-then-h-eq1 c = coordinate_exponent _ _ c.if-h-eq1.true

pub returns : goal.returns
returns c = c.is_element.ensures ∙ coordinate_root _ _ c.if-h-eq1.false
