-- `negatives::negative_power` meets its contract: each kind has its law.
-- Assumes nothing.
use mathlib.Core.Path.{◌∙◌}
use Rattle.negatives.proofs.Exponents.{negative_exponent, negative_root}
use Rattle.negatives.proofs.negative_power.Goals as goal

pub returns-then-h-eq1 : goal.returns-then-h-eq1
returns-then-h-eq1 c =
    let (big, some, within, element) = c.requires in
    c.pow_mod.ensures.value ∙ negative_exponent _ _ _ big some within element c.if-h-eq1.true

pub returns : goal.returns
returns c = negative_root _ _ _ c.inverse.ensures.value c.pow_mod-2.ensures.value
