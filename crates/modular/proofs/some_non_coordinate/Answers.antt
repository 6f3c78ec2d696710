-- `modular::some_non_coordinate` meets its contract: the test is true exactly where the search ends before n.
-- Assumes nothing.
use mathlib.Core.Path.{sym}
use Rattle.modular.proofs.FirstFailing.{some_non_coordinate_first}
use Rattle.modular.proofs.some_non_coordinate.Goals as goal

pub returns : goal.returns
returns c = rw c.first_non_coordinate.ensures.value (sym (some_non_coordinate_first _ _ _))
