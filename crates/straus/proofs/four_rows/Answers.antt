-- `straus::four_rows` meets its contract: the products over the columns are those over the rows' entries.
-- Assumes nothing.
use mathlib.Core.Path.{◌∙◌}
use Rattle.straus.proofs.Columns.{columns_rows, eight_rows_law}
use Rattle.straus.proofs.four_rows.Goals as goal

pub returns-then-n-gt4 : goal.returns-then-n-gt4
returns-then-n-gt4 c =
    c.multi_pow_eight.ensures
    ∙ eight_rows_law _ _ _ _ _ _ _ _ c.four_columns-columns.ensures c.requires

pub returns : goal.returns
returns c =
    c.multi_pow_four.ensures
    ∙ columns_rows _ _ _ _ _ _ _ _ c.four_columns-columns.ensures c.requires
