-- `combiner::testing::bad_product` meets its contract: the product of the images and the statement are compared in every row.
-- Assumes nothing.
use mathlib.Core.Path.{◌≡◌, ◌∙◌}
use lib.ListN.{length}
use Rattle.sigma.specs.Comparison.{differ}
use native.Mathlib.Omega.{arith}
use Rattle.sigma.proofs.Valid.{valid_modulus}
use Rattle.instance.specs.Values.{values_of}
use Rattle.combiner.proofs.TeamNumber.{product_read}
use Rattle.combiner.proofs.testing.bad_product.Goals as goal

pub multiply_all-requires : goal.multiply_all-requires
multiply_all-requires c =
    let valid = c.args.sheet.now.valid in omega (arith, valid_modulus valid.table, valid.table.few_rows)

pub returns : goal.returns
returns c =
    let args = c.args in
    let sheet = args.sheet.now in
    -- they are compared in all rows
    let compared : c.differ.result ≡ differ sheet.header.rows c.multiply_all.result sheet.statement = c.differ.ensures in
    compared ∙ product_read (values_of sheet) (length args.images.now) args.images.now c.multiply_all.ensures
