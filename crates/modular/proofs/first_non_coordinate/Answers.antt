use mathlib.Core.Path.{◌∙◌}
use Rattle.modular.proofs.FirstFailing.{coordinates_root}
use Rattle.std.proofs.Common.{rules}
use Rattle.sigma.specs.Element.{is_coordinate}
use Rattle.modular.proofs.FirstFailing.{failing_is}
use Rattle.modular.proofs.first_non_coordinate.Goals as goal

pub returns-then-side_by_side-clause-value : goal.returns-then-side_by_side-clause-value
returns-then-side_by_side-clause-value c =
    c.first_of_several.ensures.value ∙ coordinates_root _ _ _ c.if-h-ne1.true

pub returns-clause-value : goal.returns-clause-value
returns-clause-value c =
    let first = c.first_failing.ensures in
    failing_is (is_coordinate c.args.h) _ _ _ first.within
    (λ i before. let passes = first.passed i before in search rules)
    (λ below. let fails = first.failed below in search rules)
