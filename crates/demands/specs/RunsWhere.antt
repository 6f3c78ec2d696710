-- Exactly when a call is not refused, in other words than the conditions of Refusals: by what other calls answer and by the words of
-- 01 and 02. So a condition that is wrong in its fact and in its test alike is seen.
-- Assumes nothing.
use Rattle.disjunctions.specs.RunsWhere.{EitherRuns}
use Rattle.formats.specs.RunsWhere.{FilesRun}
use Rattle.games.specs.RunsWhere.{GameRuns}
use Rattle.ledgers.specs.RunsWhere.{LedgerRuns}
use Rattle.linear_forms.specs.RunsWhere.{LinearRuns}
use Rattle.patterns.specs.RunsWhere.{MakersRun}
use Rattle.products.specs.RunsWhere.{TeamRuns}
use Rattle.runs.specs.RunsWhere.{RoundsRun}
use Rattle.watches.specs.RunsWhere.{WatchRuns}
use Rattle.demands.specs.Calls.{Calls}

pub record RunsWhere (code : Calls) : Type 0 where
  -- the calls on sheets and round files
  pub files : FilesRun code.files
  -- the calls on rounds, Peggy's session, with card 13's saved states, and Vic's
  pub rounds : RoundsRun code.files code.runs
  -- card 2: the sheet maker, and the call that writes the shipped file
  pub patterns : MakersRun code.files code.makers
  -- card 4: the calls of the OR proof
  pub one_of_two : EitherRuns code.files code.runs code.either
  -- card 6: the combiner's calls
  pub team : TeamRuns code.files code.team
  -- card 9: opening a watch and giving it a round
  pub watch : WatchRuns code.files code.runs code.watches
  -- card 10: the maker of sheets from linear forms
  pub linear : LinearRuns code.files code.linear
  -- card 12: the game's text
  pub game : GameRuns code.files code.runs code.games
  -- card 14: the checker and the writer of a ledger
  pub ledger : LedgerRuns code.ledgers
