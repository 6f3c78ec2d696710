-- `pattern_writer::write_pattern` meets its contract: the sizes and the digits stand one after the other.
-- Assumes nothing.
use mathlib.Core.Path.{refl}
use Rattle.pattern_writer.proofs.Shipping.{pattern_fitted}
use Rattle.pattern_writer.proofs.write_pattern.Goals as goal

pub returns : goal.returns
returns c =
    pattern_fitted _ _ refl c.write_word-start.ensures c.write_word.ensures
