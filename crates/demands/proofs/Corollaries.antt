-- What follows from the demands, of the calls as they are defined.
-- Assumes nothing.
use Rattle.disjunctions.proofs.OneOfTwo.{or_corollaries}
use Rattle.disjunctions.proofs.RunsWhere.{either_runs}
use Rattle.formats.proofs.Corollaries.{file_corollaries}
use Rattle.formats.proofs.RunsWhere.{files_run}
use Rattle.games.proofs.Corollaries.{game_corollaries}
use Rattle.games.proofs.RunsWhere.{game_runs}
use Rattle.ledgers.proofs.RunsWhere.{ledger_runs}
use Rattle.linear_forms.proofs.RunsWhere.{linear_runs}
use Rattle.patterns.proofs.Corollaries.{maker_corollaries}
use Rattle.patterns.proofs.RunsWhere.{makers_run}
use Rattle.products.proofs.RunsWhere.{team_runs}
use Rattle.products.proofs.TeamAnswers.{team_corollaries}
use Rattle.reasons.proofs.ReasonsTrue.{reason_corollaries}
use Rattle.runs.proofs.Corollaries.{run_corollaries}
use Rattle.runs.proofs.RunsWhere.{rounds_run}
use Rattle.watches.proofs.Corollaries.{watch_corollaries}
use Rattle.watches.proofs.RunsWhere.{watch_runs}
use Rattle.demands.specs.Corollaries.{Corollaries}
use Rattle.demands.specs.Ours.{ours}
use Rattle.demands.proofs.MarksFiles.{marker_corollaries}

pub corollaries : Corollaries ours
corollaries = record {
  runs_where = record {
    files = files_run;
    rounds = rounds_run;
    patterns = makers_run;
    one_of_two = either_runs;
    team = team_runs;
    watch = watch_runs;
    linear = linear_runs;
    game = game_runs;
    ledger = ledger_runs;
  };
  files = file_corollaries;
  runs = run_corollaries;
  marker = marker_corollaries;
  reasons = reason_corollaries;
  patterns = maker_corollaries;
  one_of_two = or_corollaries;
  team = team_corollaries;
  watch = watch_corollaries;
  game = game_corollaries;
}
