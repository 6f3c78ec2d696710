-- The calls on pattern files as they are defined: the definitions that the contracts cite.
-- Assumes nothing.
use Rattle.patterns.specs.Maker.{make_from}
use Rattle.patterns.specs.Table.{write_shipped}
use Rattle.patterns.specs.MakerCalls.{MakerCalls}

abbrev pub maker_calls : MakerCalls
maker_calls = record {
  make_from = make_from;
  write_shipped = write_shipped;
}
