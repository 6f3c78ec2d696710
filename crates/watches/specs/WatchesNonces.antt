-- What 02's ninth card asks: what a watch answers to any round and any bytes, and what it remembers and names over any list of calls.
-- Assumes nothing.
use Rattle.std.specs.Prelude.{ℕ, suc, ◌-◌, ◌<◌, min, ◌≡◌, ◌↔◌, ◌≢◌, List, [], ◌∷◌, ◌++◌, length, get_or, replicate, take}
use Rattle.types.specs.declared.Round.{Round}
use Rattle.types.specs.declared.Verdict.TheVariants.{Accepted, Refused}
use Rattle.lists.specs.Places.{zeros8}
use Rattle.rules.specs.Order.{sheet_numbers}
use Rattle.rules.specs.Refuses.{Refuses}
use Rattle.formats.specs.FileCalls.{FileCalls}
use Rattle.formats.specs.Refusals.{RefusesOn, load_conditions}
use Rattle.formats.specs.Sheet.{instance_of}
use Rattle.runs.specs.Knowledge.{Accepts}
use Rattle.runs.specs.RunCalls.{RunCalls}
use Rattle.sigma.specs.Answer.{outcome}
use Rattle.sigma.specs.Knowledge.{Extraction}
use Rattle.sigma.specs.Reads.{padded_round, round_of}
use Rattle.watches.specs.Heard.{WatchCall, after_hearing, heard}
use Rattle.watches.specs.Refusals.{watch_conditions}
use Rattle.watches.specs.WatchCalls.{WatchCalls}
use Rattle.watches.specs.Window.{Nearest, Reuses, no_round, window}
use Rattle.watches.specs.declared.Watch.{Watch}
use Rattle.watches.specs.declared.Watched.{Watched}

module _ (watches : WatchCalls) where
  open watches use {open_watch, watch_round}

  -- the refusals, for any bytes and any watch
  pub record WatchRefusals : Type 0 where
    -- opening; a refused sheet gives a watch of zeros
    pub opening : (sheet : List ℕ)
        → Refuses sheet_numbers (load_conditions sheet) (open_watch sheet).refusal
        ((open_watch sheet).watch
        ≡ record { rounds = replicate 63 (round_of zeros8 0 zeros8); sheet = replicate 308 0; length = 0; count = 0 })
    -- giving a round; a refused call hands back the watch as it was and names nothing, and the verdict is the number
    pub hearing : (sheet : List ℕ) (w : Watch) (round : Round)
        → RefusesOn sheet (14 ∷ 15 ∷ 16 ∷ 21 ∷ []) (watch_conditions sheet w round)
        (outcome (watch_round sheet w round).verdict).number
        (watch_round sheet w round
        ≡ record {
          watch = w;
          witness = zeros8;
          back = 0;
          verdict = Refused (outcome (watch_round sheet w round).verdict).number;
        })

-- the watch with one accepted round more: what is read of it stands first, with zeros beyond s and n, the older ones stand after it
-- with all their places, and of 63 the oldest is forgotten; bytes and length stay
pub record Remembers (sheet : List ℕ) (round : Round) (w next : Watch) : Type 0 where
  pub rounds : next.rounds ≡ take 63 (padded_round (instance_of sheet).header round ∷ w.rounds)
  pub count : next.count ≡ min 63 (suc w.count)
  pub bytes : next.sheet ≡ w.sheet
  pub long : next.length ≡ w.length

module _ (runs : RunCalls) where
  open runs use {extract_witness}

  -- what is said of an accepted round, given the remembered rounds, the newest first
  pub record NamesNearest (sheet : List ℕ) (past : List Round) (round : Round) (told : Watched) : Type 0 where
    -- it names the round that stands so many accepted rounds back exactly if that one is remembered, has the same commitment and
    -- another challenge, and no nearer one has
    pub named : (b : ℕ) → (told.back ≡ suc b) ↔ Nearest sheet past round b
    -- it says none exactly if no remembered round has the same commitment and another challenge
    pub none : (told.back ≡ 0) ↔ ((i : ℕ) → i < length past → ¬ Reuses sheet round (get_or past i no_round))
    -- the witness is what the extractor answers for the two rounds, by 01's formula
    pub witness : (b : ℕ) → told.back ≡ suc b
        → (told.witness ≡ (extract_witness sheet round (get_or past b no_round)).values)
        × Extraction (instance_of sheet) (extract_witness sheet) round (get_or past b no_round)
    -- and zeros where none is named
    pub no_witness : told.back ≡ 0 → told.witness ≡ zeros8

module _ (runs : RunCalls) (watches : WatchCalls) where
  open runs use {judge_round}
  open watches use {open_watch, watch_round}

  -- what a call that is not refused answers, for any bytes and any watch, made by the calls or by hand
  pub record WatchAnswers : Type 0 where
    -- a new watch holds all bytes of the sheet and their length, remembers nothing, and has zeros in all other places
    pub opened : (sheet : List ℕ) → (open_watch sheet).refusal ≡ 0
        → (open_watch sheet).watch
        ≡ record {
          rounds = replicate 63 (round_of zeros8 0 zeros8);
          sheet = sheet ++ replicate (308 - length sheet) 0;
          length = length sheet;
          count = 0;
        }
    -- the verdict is that of the call that judges rounds
    pub judged : (sheet : List ℕ) (w : Watch) (round : Round) → (outcome (watch_round sheet w round).verdict).number ≡ 0
        → (watch_round sheet w round).verdict ≡ judge_round sheet round
    -- an accepted round is remembered, and what is said of it is true of what was remembered before it
    pub accepted : (sheet : List ℕ) (w : Watch) (round : Round) → (watch_round sheet w round).verdict ≡ Accepted
        → Remembers sheet round w (watch_round sheet w round).watch
        × NamesNearest runs sheet (window w) round (watch_round sheet w round)
    -- any other leaves the watch as it was, and nothing is named
    pub unmoved : (sheet : List ℕ) (w : Watch) (round : Round) → (watch_round sheet w round).verdict ≢ Accepted
        → ((watch_round sheet w round).watch ≡ w) × ((watch_round sheet w round).back ≡ 0)
        × ((watch_round sheet w round).witness ≡ zeros8)

  -- a watch that was opened on a sheet that loads, after any calls with any bytes and any rounds, each given the watch that the last one
  -- handed back
  pub record WatchesNonces (sheet : List ℕ) : Type 0 where
    -- it remembers the last 63 accepted rounds, the newest first
    pub remembers : (calls : List WatchCall)
        → window (after_hearing watches calls (open_watch sheet).watch) ≡ take 63 (heard runs sheet calls)
    -- a round that comes with the sheet's bytes gets the verdict of the call that judges rounds
    pub verdicts : (calls : List WatchCall) (round : Round)
        → (watch_round sheet (after_hearing watches calls (open_watch sheet).watch) round).verdict ≡ judge_round sheet round
    -- one that is refused, with any bytes, gets its refusal, and one that is not, with other bytes, 21
    pub others_refused : (calls : List WatchCall) (bytes : List ℕ) (round : Round) → 0 < (outcome (judge_round bytes round)).number
        → (watch_round bytes (after_hearing watches calls (open_watch sheet).watch) round).verdict ≡ judge_round bytes round
    pub others : (calls : List WatchCall) (bytes : List ℕ) (round : Round) → bytes ≢ sheet
        → (outcome (judge_round bytes round)).number ≡ 0
        → (watch_round bytes (after_hearing watches calls (open_watch sheet).watch) round).verdict ≡ Refused 21
    -- of an accepted one it names the nearest of the last 63 with the same commitment and another challenge
    pub names : (calls : List WatchCall) (round : Round) → Accepts runs sheet round
        → NamesNearest runs sheet (take 63 (heard runs sheet calls)) round
        (watch_round sheet (after_hearing watches calls (open_watch sheet).watch) round)

module _ (files : FileCalls) (runs : RunCalls) (watches : WatchCalls) where
  open files use {load}

  -- the card, but for its refusals
  pub record WatchWorks : Type 0 where
    pub answers : WatchAnswers runs watches
    pub watch : (sheet : List ℕ) → (load sheet).refusal ≡ 0 → WatchesNonces runs watches sheet
