-- `fields::has_mark` meets its contract: the mark is there where the slice starts with it.
-- Assumes nothing.
use mathlib.Core.Path.{◌∙◌}
use native.Mathlib.Omega.{arith}
use Rattle.fields.proofs.Laws.{mark_starts}
use Rattle.fields.proofs.has_mark.Goals as goal

pub returns : goal.returns
returns c = record { value = c.starts_with.ensures.value ∙ mark_starts _ _ (omega arith) (omega arith) }
