-- `combiner::parts::some_non_element_part` meets its contract. Assumes nothing.
use mathlib.Core.Path.{◌≡◌}
use mathlib.Core.Bool.{true, false}
use mathlib.Core.List.{[]}
use Rattle.std.proofs.Common.{rules, tests}
use Rattle.std.proofs.lemmas.Iterator.{cases_from_any, YieldsList-from_slice}
use Rattle.sigma.specs.Element.{some_non_element}
use Rattle.combiner.specs.Parts.{non_element_part}
use Rattle.combiner.proofs.Rows.{any_row}
use Rattle.combiner.proofs.parts.some_non_element_part.Goals as goal

pub returns : goal.returns
unfolding non_element_part
returns c =
    let h = c.args.h in
    let parts = c.args.parts.now in
    any_row [] (some_non_element h h.rows) parts _
    (cases_from_any _ _ _ (λ x. some_non_element h h.rows x ≡ true) (λ x. some_non_element h h.rows x ≡ false) c.any.ensures.ran
    (YieldsList-from_slice parts cc) (λ x q k. search (rules, tests)) (λ x q k. search (rules, tests)))
