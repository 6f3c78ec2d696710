-- `pattern_file::digits::names` meets its contract.
-- Assumes nothing.
use mathlib.Core.Path.{◌∙◌}
use lib.Dec.{eqb}
use Rattle.std.proofs.Common.{rules, tests}
use Rattle.std.proofs.lemmas.Iterator.{YieldsList-from_slice}
use Rattle.std.proofs.lemmas.Iterator.Search.{any_from_yields_List}
use Rattle.pattern_file.specs.Naming.{names}
use Rattle.pattern_file.proofs.Naming.{any_digit}
use Rattle.pattern_file.proofs.digits.names.Goals as goal

pub returns : goal.returns
unfolding names
returns c =
    any_from_yields_List (λ d. eqb d c.args.v) _ _ _ c.any.ensures.ran (YieldsList-from_slice _ cc) (λ x b q k. search (rules, tests))
    ∙ any_digit _ _
