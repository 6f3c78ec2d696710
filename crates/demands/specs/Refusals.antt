-- Demand 1 (00) with the cards' calls (02): every call, for any bytes and any numbers, ends in a result or in one of its refusals,
-- whose conditions are fixed, and a refused call changes neither a lent buffer nor a session. The two calls that make a new session
-- take nothing and refuse nothing.
-- Assumes nothing.
use Rattle.std.specs.Prelude.{◌≡◌, [], ◌∷◌}
use Rattle.rules.specs.Order.{refusal_order}
use Rattle.disjunctions.specs.OneOfTwo.{OrRefusals}
use Rattle.formats.specs.Converts.{ConvertRefusals}
use Rattle.formats.specs.FileRefusals.{FileRefusals}
use Rattle.formats.specs.WordsCompare.{WordsRefusals}
use Rattle.games.specs.Prints.{GameRefusals}
use Rattle.ledgers.specs.LedgerHolds.{LedgerRefusals}
use Rattle.linear_forms.specs.LinearSheets.{LinearRefusals}
use Rattle.patterns.specs.PatternCalls.{PatternRefusals}
use Rattle.products.specs.TeamWorks.{TeamRefusals}
use Rattle.runs.specs.RunRefusals.{MarkRefusals, RunRefusals}
use Rattle.watches.specs.WatchesNonces.{WatchRefusals}
use Rattle.demands.specs.Calls.{Calls}

pub record Refusals (code : Calls) : Type 0 where
  -- the order of the numbers: 01's rise, and 02's cards put 23 and 24 before 1, 27 after 9, 29 and 30 after 27, 26 after 11, 37, 35 and 36
  -- after 26, 25 after 12, 28 after 16, 31 after 28, and 32 to 34 after 21; "lowest" is the earliest there
  pub order : refusal_order
      ≡ 23 ∷ 24 ∷ 1 ∷ 2 ∷ 3 ∷ 4 ∷ 5 ∷ 6 ∷ 7 ∷ 8 ∷ 9 ∷ 27 ∷ 29 ∷ 30 ∷ 10 ∷ 11 ∷ 26 ∷ 37 ∷ 35 ∷ 36 ∷ 12 ∷ 25 ∷ 13 ∷ 14 ∷ 15 ∷
      16 ∷ 28 ∷ 31 ∷ 17 ∷ 18 ∷ 19 ∷ 20 ∷ 21 ∷ 32 ∷ 33 ∷ 34 ∷ 22 ∷ []
  -- the calls on sheets and round files, with card 7's versions
  pub files : FileRefusals code.files
  -- the calls on rounds, Peggy's session, with card 13's saved states, and Vic's
  pub runs : RunRefusals code.runs
  -- the marker, with card 3's level
  pub marker : MarkRefusals code.marker
  -- card 2: the sheet maker, which takes a pattern file, and the call that writes the shipped one
  pub patterns : PatternRefusals code.makers
  -- card 4: the calls of the OR proof
  pub one_of_two : OrRefusals code.either
  -- card 5: comparing the commitments of two rounds of a file
  pub words : WordsRefusals code.files
  -- card 6: the combiner's calls
  pub team : TeamRefusals code.team
  -- card 7: converting a round file
  pub sixteen_bits : ConvertRefusals code.files
  -- card 9: opening a watch and giving it a round
  pub watch : WatchRefusals code.watches
  -- card 10: the maker of sheets from linear forms
  pub linear : LinearRefusals code.linear
  -- card 12: the game's text
  pub game : GameRefusals code.files code.games
  -- card 14: the checker and the writer of a ledger
  pub ledger : LedgerRefusals code.ledgers
