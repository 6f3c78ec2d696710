-- The record `Crosses`, beside `Demands`: what each field of a struct that an export takes or answers stands for. `Demands` speaks of
-- the calls; by this record the same holds of the exports, whose contracts are equations with the calls in these forms. The structs
-- `Header`, `Loaded`, `Written`, `Round`, `Counted`, `Part`, `Fetched`, `Computed`, `Compared`, `OrRound`, `OrExtracted`, `Watch`, `Opened`,
-- `Memory`, `Saved`, `Listed`, `Base`, `Line`, `Ledger`, `Checked`, `Entry`, `Entries` and `LedgerWritten` are those of the calls and cross
-- as they are, so that `Demands` itself says what their fields are.
-- Assumes nothing.
use Rattle.crossing.specs.SessionsCross.{SessionsCross}
use Rattle.linear_forms.specs.LinearCrosses.{LinearCrosses}
use Rattle.or_crossing.specs.OrCrosses.{OrCrosses}
use Rattle.tables.specs.TablesCross.{TablesCross}
use Rattle.watch_crossing.specs.WatchCrosses.{WatchCrosses}

pub record Crosses : Type 0 where
  -- verdicts, both sessions and what calls on them answer
  pub sessions : SessionsCross
  -- those of the OR proof
  pub one_of_two : OrCrosses
  -- entries and players' rows as 64 numbers
  pub tables : TablesCross
  -- what a watch answers to a round
  pub watches : WatchCrosses
  -- the numbers and lists of a sheet from linear forms
  pub linear : LinearCrosses
