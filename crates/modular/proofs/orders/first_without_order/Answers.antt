use Rattle.powers.proofs.Places.{power_at}
use Rattle.std.proofs.Common.{rules}
use Rattle.sigma.specs.Element.{is_element}
use Rattle.modular.proofs.FirstFailing.{failing_is}
use Rattle.modular.proofs.orders.first_without_order.Goals as goal

pub first_failing-requires : goal.first_failing-requires
first_failing-requires c = λ i below. let power = power_at _ _ _ _ _ c.powers-raised.ensures i below in search rules

pub returns-clause-value : goal.returns-clause-value
returns-clause-value c =
    let first = c.first_failing.ensures in
    failing_is (is_element c.args.h) _ _ _ first.within
    (λ i before. let passes = first.passed i before in search rules)
    (λ below. let fails = first.failed below in search rules)
