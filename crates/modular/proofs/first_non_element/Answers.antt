use Rattle.std.proofs.Common.{rules}
use Rattle.sigma.specs.Element.{is_element}
use Rattle.modular.proofs.FirstFailing.{failing_is}
use Rattle.modular.proofs.first_non_element.Goals as goal

pub returns-clause-value : goal.returns-clause-value
returns-clause-value c =
    let first = c.first_failing.ensures in
    failing_is (is_element c.args.h) _ _ _ first.within
    (λ i before. let passes = first.passed i before in search rules)
    (λ below. let fails = first.failed below in search rules)
