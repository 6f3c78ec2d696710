-- `comparison::first_places` meets its contract.
-- Assumes nothing.
use native.Mathlib.Omega.{arith}
use Rattle.lists.proofs.Filling.{copied_places}
use Rattle.comparison.proofs.first_places.Goals as goal

pub returns : goal.returns
returns c = copied_places _ c.args.values _ (omega arith) (omega arith) c.copy_from_slice.ensures.after
