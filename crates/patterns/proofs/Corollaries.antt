-- What follows from the demands on pattern files holds.
-- Assumes nothing.
use Rattle.patterns.specs.Corollaries.{MakerCorollaries}
use Rattle.patterns.proofs.OldMaker.{one_maker, others, some_maker}
use Rattle.patterns.proofs.Shipped.{asks_root, old_values, same_values}

pub maker_corollaries : MakerCorollaries
maker_corollaries = record {
  some_maker = some_maker;
  one_maker = one_maker;
  others = others;
  same_values = same_values;
  same_root_values = old_values asks_root;
}
