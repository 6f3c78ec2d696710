-- `writer::slices::eight_of` meets its contract.
-- Assumes nothing.
use mathlib.Core.Path.{◌∙◌, ap}
use native.Mathlib.Omega.{arith}
use lib.ListN.{length}
use Rattle.lists.specs.Places.{pad8}
use Rattle.lists.proofs.Filling.{copied_eight}
use Rattle.writer.proofs.slices.eight_of.Goals as goal

pub returns : goal.returns
returns c =
    let copied = c.copy_from_slice.ensures.after in
    copied_eight 0 _ _ (ap length copied) (omega arith) ∙ ap (pad8 0) copied
