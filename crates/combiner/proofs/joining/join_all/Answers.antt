-- `combiner::joining::join_all` meets its contract. Assumes nothing.
use lib.ListN.{length}
use Rattle.std.proofs.Common.{rules}
use Rattle.products.specs.Team.{join_all}
use Rattle.combiner.specs.Parts.{joined_slot, place_of}
use Rattle.combiner.proofs.joining.join_all.Goals as goal

pub returns : goal.returns
unfolding join_all joined_slot place_of
returns c =
    let parts = c.args.parts.now in
    c.tabulated.ensures (joined_slot c.args.h (length parts) parts) (λ slot value inside computed. search rules)
