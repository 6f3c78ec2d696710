-- What follows from the demands and is no sentence of 00 to 02, of the calls as they are defined: a caller may use it, and nobody
-- needs to read it to know what the calls do.
-- Assumes nothing.
use Rattle.std.specs.Prelude.{ℕ, ◌≤◌, ◌≡◌, List, [], ◌∷◌, length, take}
use Rattle.types.specs.declared.Verdict.TheVariants.{Rejected, Refused}
use Rattle.lists.specs.Member.{Member}
use Rattle.disjunctions.specs.Corollaries.{OrCorollaries}
use Rattle.formats.specs.Corollaries.{FileCorollaries}
use Rattle.formats.specs.FileCalls.{FileCalls}
use Rattle.formats.specs.Sheet.{instance_of}
use Rattle.games.specs.Corollaries.{GameCorollaries}
use Rattle.patterns.specs.Corollaries.{MakerCorollaries}
use Rattle.products.specs.Corollaries.{TeamCorollaries}
use Rattle.reasons.specs.Corollaries.{ReasonCorollaries}
use Rattle.runs.specs.Corollaries.{RunCorollaries}
use Rattle.runs.specs.MarkerCalls.{MarkerCalls, verdict_on}
use Rattle.runs.specs.RunCalls.{RunCalls}
use Rattle.sigma.specs.Meaning.{FailsExactly, FailsFirst}
use Rattle.watches.specs.Corollaries.{WatchCorollaries}
use Rattle.demands.specs.Calls.{Calls}
use Rattle.demands.specs.MarksFiles.{printed, rows_line}
use Rattle.demands.specs.RunsWhere.{RunsWhere}

module _ (files : FileCalls) (runs : RunCalls) (marker : MarkerCalls) where
  open files use {load, fetch_round}
  open marker use {marker_text}

  -- the marker's text
  pub record MarkerCorollaries : Type 0 where
    -- of a sheet that loads, the line of a rejected round has exactly the rows whose two sides differ, rising, and 01's row is the
    -- first of them
    pub rejected : (sheet f : List ℕ) → (load sheet).refusal ≡ 0 → (k mask : ℕ) → verdict_on files runs sheet f k ≡ Rejected mask
        → (row : ℕ) × (others : List ℕ) × FailsFirst (instance_of sheet) (fetch_round sheet f k).round row
        × FailsExactly (instance_of sheet) (fetch_round sheet f k).round (row ∷ others)
        × (printed k (verdict_on files runs sheet f k) ≡ rows_line k (row ∷ others))
    -- 14,864 bytes hold every text
    pub short : (sheet f level : List ℕ) → length (marker_text sheet f level) ≤ 14864
    -- of a sheet that loads, a round is refused with 14, 15 or 16
    pub round_refusals : (sheet f : List ℕ) → (load sheet).refusal ≡ 0 → (k number : ℕ)
        → verdict_on files runs sheet f k ≡ Refused number → Member number (14 ∷ 15 ∷ 16 ∷ [])
    -- 309 bytes of a sheet, 34,824 of a file and two of a level are enough
    pub kept : (a b n : ℕ) → 309 ≤ a → 34824 ≤ b → 2 ≤ n → (sheet f level : List ℕ)
        → marker_text (take a sheet) (take b f) (take n level) ≡ marker_text sheet f level

pub record Corollaries (code : Calls) : Type 0 where
  -- exactly when a call is not refused, in other words than its conditions
  pub runs_where : RunsWhere code
  pub files : FileCorollaries code.files
  pub runs : RunCorollaries code.files code.runs
  pub marker : MarkerCorollaries code.files code.runs code.marker
  pub reasons : ReasonCorollaries
  pub patterns : MakerCorollaries
  pub one_of_two : OrCorollaries code.files code.either
  pub team : TeamCorollaries code.team
  pub watch : WatchCorollaries code.watches
  pub game : GameCorollaries code.games
