-- `fields::write_mark` meets its contract.
-- Assumes nothing.
use native.Mathlib.Omega.{arith}
use Rattle.fields.proofs.Laws.{mark_copied}
use Rattle.fields.proofs.write_mark.Goals as goal

pub returns : goal.returns
returns c = record { stored = mark_copied _ _ _ (omega arith) (omega arith) c.copy_from_slice.ensures.after }
