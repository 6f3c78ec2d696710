-- `combiner::joining::sum_at` meets its contract. Assumes nothing.
use mathlib.Core.Path.{◌∙◌}
use mathlib.Core.List.{[]}
use lib.ListN.{get_or}
use Rattle.std.proofs.Common.{rules}
use Rattle.std.proofs.lemmas.Iterator.{YieldsList-from_map, YieldsList-from_slice}
use Rattle.std.proofs.lemmas.Iterator.Consumers.{sum_by_from_yields_List}
use Rattle.combiner.specs.Parts.{place_of}
use Rattle.combiner.proofs.Rows.{sum_rows}
use Rattle.combiner.proofs.joining.sum_at.Goals as goal

pub returns : goal.returns
unfolding place_of
returns c =
    let parts = c.args.parts.now in
    sum_by_from_yields_List (λ part. get_or part c.args.j 0) parts c.map.result _ c.sum.ensures.ran
    (YieldsList-from_map _ (λ part. get_or part c.args.j 0) (YieldsList-from_slice parts cc) c.map.ensures.closure (λ x r q k. search rules))
    ∙ sum_rows [] (λ part. get_or part c.args.j 0) parts
