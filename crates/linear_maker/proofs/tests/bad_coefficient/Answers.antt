-- `linear_maker::tests::bad_coefficient` meets its contract.
-- Assumes nothing.
use mathlib.Core.Path.{refl, ◌∙◌}
use lib.Dec.{leb}
use Rattle.std.proofs.Common.{rules, tests}
use Rattle.std.proofs.lemmas.Iterator.{YieldsList-from_slice}
use Rattle.std.proofs.lemmas.Iterator.Search.{any_from_yields_List}
use Rattle.numbers.proofs.Listed.{any_listed}
use Rattle.linear_forms.specs.Linear.{bad_coefficient}
use Rattle.linear_maker.proofs.tests.bad_coefficient.Goals as goal

pub returns : goal.returns
unfolding bad_coefficient
returns c =
    any_from_yields_List (leb c.args.h.order) _ _ _ c.any.ensures.ran (YieldsList-from_slice _ cc) (λ x b q k. search (rules, tests))
    ∙ any_listed (leb c.args.h.order) _ _ refl
