-- `modular::some_non_element` meets its contract: the test is true exactly where the search ends before n.
-- Assumes nothing.
use mathlib.Core.Path.{sym}
use Rattle.modular.proofs.FirstFailing.{some_non_element_first}
use Rattle.modular.proofs.some_non_element.Goals as goal

pub returns : goal.returns
returns c = rw c.first_non_element.ensures.value (sym (some_non_element_first _ _ _))
