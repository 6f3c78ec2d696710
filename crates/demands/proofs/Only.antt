-- The demands determine the calls: two codes that meet them answer the same to every input.
-- Assumes nothing.
use Rattle.disjunctions.proofs.Only.{only_either}
use Rattle.disjunctions.proofs.OnlyRounds.{EitherDemands}
use Rattle.formats.proofs.Only.{FileDemands, only_files}
use Rattle.games.proofs.Only.{only_games}
use Rattle.ledgers.proofs.Only.{only_ledgers}
use Rattle.linear_forms.proofs.Only.{only_linear}
use Rattle.patterns.proofs.Only.{MakerDemands, only_makers}
use Rattle.products.proofs.Only.{only_team}
use Rattle.reasons.proofs.Only.{only_reasons}
use Rattle.runs.proofs.Only.{only_runs}
use Rattle.runs.proofs.RunDemands.{RunDemands}
use Rattle.watches.proofs.Only.{only_watches}
use Rattle.demands.specs.Calls.{Calls}
use Rattle.demands.specs.Demands.{Demands}
use Rattle.demands.specs.Same.{Same}
use Rattle.demands.proofs.OnlyMarker.{only_marker}

-- ---- what the demands ask of the calls of each crate

module _ (code : Calls) (d : Demands code) where
  file_demands : FileDemands code.files
  file_demands = record {
    refusals = d.refusals.files;
    layout = d.layout;
    writers = d.writers;
    words_refusals = d.refusals.words;
    words = d.cards.words;
    convert_refusals = d.refusals.sixteen_bits;
    converts = d.cards.sixteen_bits;
  }

  run_demands : RunDemands code.files code.runs
  run_demands = record {
    loading = d.refusals.files;
    refusals = d.refusals.runs;
    sessions = d.sessions;
    main_protocol = d.main_protocol;
    protocol = d.protocol;
    knowledge = d.knowledge;
  }

  maker_demands : MakerDemands code.makers
  maker_demands = record { refusals = d.refusals.patterns; patterns = d.cards.patterns }

  either_demands : EitherDemands code.files code.runs code.either
  either_demands = record { runs = run_demands; refusals = d.refusals.one_of_two; proof = d.cards.one_of_two }

-- ---- the theorem

pub only : (code code' : Calls) → Demands code → Demands code' → Same code code'
only code code' d d' =
    let files = only_files code.files code'.files (file_demands code d) (file_demands code' d') in
    let runs = only_runs (run_demands code d) (run_demands code' d') in
    record {
      files = files;
      runs = runs;
      marker = only_marker files runs code.marker code'.marker d.marker d'.marker;
      reasons = only_reasons d.cards.reason d'.cards.reason files.fetch_round runs;
      makers = only_makers code.makers code'.makers (maker_demands code d) (maker_demands code' d');
      either = only_either (either_demands code d) (either_demands code' d') runs;
      team = only_team code.team code'.team d.refusals.team d'.refusals.team d.cards.team.answers
          d'.cards.team.answers;
      watches = only_watches d.refusals.watch d'.refusals.watch d.cards.watch.answers d'.cards.watch.answers runs;
      linear = only_linear code.linear code'.linear d.refusals.linear d'.refusals.linear d.cards.linear
          d'.cards.linear;
      games = only_games d.refusals.game d'.refusals.game d.cards.game_text_law d'.cards.game_text_law files.fetch_round runs;
      ledgers = only_ledgers d.refusals.ledger d'.refusals.ledger d.cards.ledger.answers d'.cards.ledger.answers;
    }
