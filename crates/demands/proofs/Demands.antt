-- The two theorems: the calls as they are defined meet the demands, and no others do.
-- Assumes nothing.
use mathlib.Core.Path.{refl}
use Rattle.rules.specs.Order.{refusal_order}
use Rattle.disjunctions.proofs.OneOfTwo.{or_proof}
use Rattle.disjunctions.proofs.OrRefusals.{or_refusals}
use Rattle.examples.proofs.AnswerPage.{answer_page}
use Rattle.examples.proofs.Corners.{every_disjunct}
use Rattle.examples.proofs.GameCorners.{game_corners}
use Rattle.examples.proofs.GamePage.{game_page}
use Rattle.examples.proofs.LedgerCorners.{ledger_corners}
use Rattle.examples.proofs.LedgerPage.{ledger_page}
use Rattle.examples.proofs.LinearCorners.{linear_corners}
use Rattle.examples.proofs.LinearPage.{linear_page}
use Rattle.examples.proofs.Pages.{worked_examples}
use Rattle.examples.proofs.ProductsPage.{products_page}
use Rattle.examples.proofs.ReasonPage.{reason_page}
use Rattle.examples.proofs.RowsPage.{rows_page}
use Rattle.examples.proofs.SavedCorners.{saved_corners}
use Rattle.examples.proofs.SavedPage.{saved_page}
use Rattle.examples.proofs.TeamPage.{team_page}
use Rattle.examples.proofs.WatchCorners.{watch_corners}
use Rattle.examples.proofs.WatchPage.{watch_page}
use Rattle.formats.specs.Load.{load}
use Rattle.formats.proofs.ByteLayout.{layout}
use Rattle.formats.proofs.Converts.{convert_refusals, converts}
use Rattle.formats.proofs.FileRefusals.{file_refusals}
use Rattle.formats.proofs.SameCommitment.{words_compare, words_refusals}
use Rattle.formats.proofs.Writers.{writers}
use Rattle.games.proofs.Game.{game}
use Rattle.games.proofs.Playing.{game_prints, game_refusals}
use Rattle.ledgers.proofs.LedgerHolds.{ledger_holds}
use Rattle.ledgers.proofs.LedgerRefusals.{ledger_refusals}
use Rattle.linear_forms.proofs.LinearSheets.{linear_refusals, linear_sheets}
use Rattle.patterns.proofs.Meaning.{patterns_mean}
use Rattle.patterns.proofs.PatternCalls.{pattern_calls, pattern_refusals}
use Rattle.products.proofs.RoundsMultiply.{products_work}
use Rattle.products.proofs.TeamRefusals.{team_refusals}
use Rattle.products.proofs.TeamWorks.{team_works}
use Rattle.reasons.proofs.ReasonsTrue.{reasons_true}
use Rattle.runs.proofs.Demand3.{demand3}
use Rattle.runs.proofs.MainProtocol.{main_protocol}
use Rattle.runs.proofs.Protocol.{protocol}
use Rattle.runs.proofs.ReadsAlike.{loses_nothing}
use Rattle.runs.proofs.RunRefusals.{mark_refusals, run_refusals}
use Rattle.runs.proofs.SavedStates.{saved_states}
use Rattle.runs.proofs.Sessions.{sessions}
use Rattle.sigma.proofs.Answer.{verdict_outcomes}
use Rattle.watches.proofs.WatchRefusals.{watch_refusals}
use Rattle.watches.proofs.WatchesNonces.{watch_works}
use Rattle.demands.specs.Calls.{Calls}
use Rattle.demands.specs.Demands.{Demands}
use Rattle.demands.specs.Evidence.{Evidence}
use Rattle.demands.specs.Ours.{ours}
use Rattle.demands.specs.Same.{Same}
use Rattle.demands.proofs.AllRows.{all_rows}
use Rattle.demands.proofs.Arithmetic.{arithmetic}
use Rattle.demands.proofs.MarksFiles.{marks_files}
use Rattle.demands.proofs.Only.{only}
use Rattle.demands.proofs.ReadsBack.{reads_back}

-- our calls meet the demands
pub holds : Demands ours
unfolding load refusal_order
holds = record {
  refusals = record {
    order = refl;
    files = file_refusals;
    runs = run_refusals;
    marker = mark_refusals;
    patterns = pattern_refusals;
    one_of_two = or_refusals;
    words = words_refusals;
    team = team_refusals;
    sixteen_bits = convert_refusals;
    watch = watch_refusals;
    linear = linear_refusals;
    game = game_refusals;
    ledger = ledger_refusals;
  };
  main_protocol = main_protocol;
  protocol = protocol;
  sessions = sessions;
  layout = layout;
  writers = writers;
  files = reads_back;
  marker = marks_files;
  knowledge = demand3;
  cards = record {
    reason = reasons_true;
    patterns = pattern_calls;
    one_of_two = or_proof;
    words = words_compare;
    team = team_works;
    sixteen_bits = converts;
    loses_nothing = loses_nothing;
    rows = all_rows;
    watch = watch_works;
    linear = linear_sheets;
    multiply = products_work;
    game = game;
    game_text_law = game_prints;
    saved = saved_states;
    ledger = ledger_holds;
  };
  patterns = patterns_mean;
  arithmetic = arithmetic;
  outcomes = verdict_outcomes;
}

-- whoever meets them answers as ours do, to every input
pub no_other : (code : Calls) → Demands code → Same code ours
no_other code d = only code ours d holds

-- pages and corners
pub evidence : Evidence
evidence = record {
  pages = worked_examples.0;
  corners = worked_examples.1;
  sheet_corners = every_disjunct.0;
  pattern_corners = every_disjunct.1;
  file_corners = every_disjunct.2;
  round_corners = every_disjunct.3;
  or_corners = every_disjunct.4;
  team_corners = every_disjunct.5;
  watch_corners = watch_corners;
  linear_corners = linear_corners;
  game_corners = game_corners;
  saved_corners = saved_corners;
  ledger_corners = ledger_corners;
  reason_page = reason_page;
  or_page = worked_examples.2;
  answer_page = answer_page;
  session_page = worked_examples.3;
  team_page = team_page;
  rows_page = rows_page;
  watch_page = watch_page;
  linear_page = linear_page;
  products_page = products_page;
  game_page = game_page;
  saved_page = saved_page;
  ledger_page = ledger_page;
}
