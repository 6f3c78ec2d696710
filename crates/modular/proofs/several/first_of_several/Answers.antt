use mathlib.Core.Path.{sym, ◌∙◌}
use Rattle.modular.proofs.AllUnits.{units_all}
use Rattle.std.proofs.Common.{rules}
use Rattle.sigma.specs.Element.{is_element}
use Rattle.modular.proofs.FirstFailing.{failing_is}
use Rattle.modular.proofs.several.first_of_several.Goals as goal

pub returns-then-all_units-clause-value : goal.returns-then-all_units-clause-value
returns-then-all_units-clause-value c = units_all _ _ _ (sym c.all_units.ensures ∙ c.if-all_units.true)

pub returns-clause-value : goal.returns-clause-value
returns-clause-value c =
    let first = c.first_failing.ensures in
    failing_is (is_element c.args.h) _ _ _ first.within
    (λ i before. let passes = first.passed i before in search rules)
    (λ below. let fails = first.failed below in search rules)
