-- `straus::choices::pairs` meets its contract: ones, each column, and their product.
-- Assumes nothing.
use Rattle.straus.proofs.Tables.{pairs_are}
use Rattle.straus.proofs.choices.pairs.Goals as goal

pub returns : goal.returns
returns c = pairs_are _ _ _ _ _ c.splat.ensures c.mul.ensures
