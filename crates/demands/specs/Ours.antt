-- The calls as they are defined: each public contract is an equation with the definition in the call's field.
-- Assumes nothing.
use Rattle.disjunctions.specs.Ours.{or_calls}
use Rattle.formats.specs.Ours.{file_calls}
use Rattle.games.specs.Ours.{game_calls}
use Rattle.ledgers.specs.Ours.{ledger_calls}
use Rattle.linear_forms.specs.Ours.{linear_calls}
use Rattle.patterns.specs.Ours.{maker_calls}
use Rattle.products.specs.Ours.{team_calls}
use Rattle.reasons.specs.Ours.{reason_calls}
use Rattle.runs.specs.Marker.{marker_calls}
use Rattle.runs.specs.Ours.{run_calls}
use Rattle.watches.specs.Ours.{watch_calls}
use Rattle.demands.specs.Calls.{Calls}

abbrev pub ours : Calls
ours = record {
  files = file_calls;
  runs = run_calls;
  marker = marker_calls;
  reasons = reason_calls;
  makers = maker_calls;
  either = or_calls;
  team = team_calls;
  watches = watch_calls;
  linear = linear_calls;
  games = game_calls;
  ledgers = ledger_calls;
}
