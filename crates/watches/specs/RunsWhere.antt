-- Exactly when a call on a watch is not refused (02, card 9), and which round it names, without the conditions of its refusals and
-- without the search: by what 01's calls answer. So a condition or a search that is changed together with its test is seen.
-- Assumes nothing.
use Rattle.std.specs.Prelude.{ℕ, suc, ◌<◌, ◌≡◌, ◌↔◌, ◌≢◌, List, get_or}
use Rattle.types.specs.declared.Round.{Round}
use Rattle.types.specs.declared.Verdict.TheVariants.{Accepted}
use Rattle.lists.specs.Places.{places}
use Rattle.formats.specs.FileCalls.{FileCalls}
use Rattle.runs.specs.Knowledge.{Accepts}
use Rattle.runs.specs.RunCalls.{RunCalls}
use Rattle.sigma.specs.Answer.{outcome}
use Rattle.sigma.specs.Reads.{round_of}
use Rattle.watches.specs.WatchCalls.{WatchCalls}
use Rattle.watches.specs.Window.{no_round}
use Rattle.watches.specs.declared.Watch.{Watch}

module _ (runs : RunCalls) where
  -- another round has the commitment of an accepted one, and another challenge: its t is accepted with the c and r of that one, as no
  -- other t is
  abbrev pub Again : List ℕ → Round → Round → Type 0
  Again sheet round other =
      Accepts runs sheet (round_of other.commitment round.challenge round.response) × (other.challenge ≢ round.challenge)

pub record WatchRuns (files : FileCalls) (runs : RunCalls) (watches : WatchCalls) : Type 0 where
  -- opening: the sheet loads
  pub opens : (sheet : List ℕ) → ((watches.open_watch sheet).refusal ≡ 0) ↔ ((files.load sheet).refusal ≡ 0)
  -- giving a round: 01's judging call does not refuse it, the held bytes are the sheet's, fewer than 64 rounds are counted, and of an
  -- accepted round the nearest counted one with its commitment and another challenge is accepted
  pub hears : (sheet : List ℕ) (w : Watch) (round : Round) → ((outcome (watches.watch_round sheet w round).verdict).number ≡ 0)
      ↔ (((outcome (runs.judge_round sheet round)).number ≡ 0) × (places w.length w.sheet ≡ sheet) × (w.count < 64)
      × (Accepts runs sheet round → (b : ℕ) → b < w.count → Again runs sheet round (get_or w.rounds b no_round)
      → ((i : ℕ) → i < b → ¬ Again runs sheet round (get_or w.rounds i no_round))
      → Accepts runs sheet (get_or w.rounds b no_round)))
  -- it names the nearest counted round that 01's extractor takes with the accepted one
  pub names : (sheet : List ℕ) (w : Watch) (round : Round) → (watches.watch_round sheet w round).verdict ≡ Accepted
      → (b : ℕ) → ((watches.watch_round sheet w round).back ≡ suc b)
      ↔ ((b < w.count) × ((runs.extract_witness sheet round (get_or w.rounds b no_round)).refusal ≡ 0)
      × ((i : ℕ) → i < b → 0 < (runs.extract_witness sheet round (get_or w.rounds i no_round)).refusal))
