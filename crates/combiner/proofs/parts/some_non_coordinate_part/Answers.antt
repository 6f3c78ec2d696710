-- `combiner::parts::some_non_coordinate_part` meets its contract. Assumes nothing.
use mathlib.Core.Path.{◌≡◌}
use mathlib.Core.Bool.{true, false}
use mathlib.Core.List.{[]}
use Rattle.std.proofs.Common.{rules, tests}
use Rattle.std.proofs.lemmas.Iterator.{cases_from_any, YieldsList-from_slice}
use Rattle.sigma.specs.Element.{some_non_coordinate}
use Rattle.combiner.specs.Parts.{non_coordinate_part}
use Rattle.combiner.proofs.Rows.{any_row}
use Rattle.combiner.proofs.parts.some_non_coordinate_part.Goals as goal

pub returns : goal.returns
unfolding non_coordinate_part
returns c =
    let h = c.args.h in
    let parts = c.args.parts.now in
    any_row [] (some_non_coordinate h h.columns) parts _
    (cases_from_any _ _ _ (λ x. some_non_coordinate h h.columns x ≡ true) (λ x. some_non_coordinate h h.columns x ≡ false) c.any.ensures.ran
    (YieldsList-from_slice parts cc) (λ x q k. search (rules, tests)) (λ x q k. search (rules, tests)))
