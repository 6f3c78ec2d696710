-- `combiner::joining::multiply_all` meets its contract. Assumes nothing.
use Prim.Native.Nat.{◌%◌}
use lib.ListN.{length}
use Rattle.std.proofs.Common.{rules}
use Rattle.numbers.specs.Product.{product}
use Rattle.products.specs.Team.{multiply_all}
use Rattle.combiner.specs.Parts.{place_of}
use Rattle.combiner.proofs.joining.multiply_all.Goals as goal

pub returns : goal.returns
unfolding multiply_all place_of
returns c =
    let parts = c.args.parts.now in
    c.tabulated.ensures (λ row. product (length parts) (place_of parts row) % c.args.h.modulus) (λ row value inside computed. search rules)
