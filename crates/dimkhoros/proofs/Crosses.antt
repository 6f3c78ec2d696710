-- `Crosses` holds.
-- Assumes nothing.
use Rattle.crossing.proofs.SessionsCross.{sessions_cross}
use Rattle.linear_forms.proofs.LinearCrosses.{linear_crosses}
use Rattle.or_crossing.proofs.OrCrosses.{or_crosses}
use Rattle.tables.proofs.TablesCross.{tables_cross}
use Rattle.watch_crossing.proofs.WatchCrosses.{watch_crosses}
use Rattle.dimkhoros.specs.Crosses.{Crosses}

pub crosses : Crosses
crosses = record {
  sessions = sessions_cross;
  one_of_two = or_crosses;
  tables = tables_cross;
  watches = watch_crosses;
  linear = linear_crosses;
}
