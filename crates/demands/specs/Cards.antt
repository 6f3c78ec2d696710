-- What the cards of 02 ask beyond 01, a field for each card. Card 3, which changes the marker, stands in Refusals and MarksFiles, and
-- what card 7 changes of 01's calls on round files in Refusals, Layout, Writers, ReadsBack and ReasonsTrue. That card 8's rows rise
-- stands in VerdictOutcomes, Protocol and OneOfTwo, and how they are printed in MarksFiles and ReasonsTrue. What card 13's calls and those
-- of 01's Peggy hand back stands in Sessions.
-- Assumes nothing.
use Rattle.std.specs.Prelude.{ℕ, ◌≡◌, List}
use Rattle.disjunctions.specs.OneOfTwo.{OrProof}
use Rattle.formats.specs.Converts.{Converts}
use Rattle.formats.specs.WordsCompare.{WordsCompare}
use Rattle.games.specs.Game.{Game}
use Rattle.games.specs.Prints.{GamePrints}
use Rattle.ledgers.specs.LedgerHolds.{LedgerHolds}
use Rattle.linear_forms.specs.LinearSheets.{LinearSheets}
use Rattle.patterns.specs.PatternCalls.{PatternCalls}
use Rattle.products.specs.RoundsMultiply.{ProductsWork}
use Rattle.products.specs.TeamWorks.{TeamWorks}
use Rattle.reasons.specs.ReasonsTrue.{ReasonsTrue}
use Rattle.runs.specs.ReadsAlike.{LosesNothing}
use Rattle.runs.specs.SavedStates.{SavedStates}
use Rattle.watches.specs.WatchesNonces.{WatchWorks}
use Rattle.demands.specs.AllRows.{AllRows}
use Rattle.demands.specs.Calls.{Calls}

pub record Cards (code : Calls) : Type 0 where
  -- 1: the line on a sheet, a file or its round 0 tells the first value that breaks the first rule that is broken, or the
  -- rows whose two sides differ
  pub reason : ReasonsTrue code.files code.runs code.reasons
  -- 2: which bytes are a pattern file and which pattern a number gives, what the sheet maker writes and what that means, and that
  -- the shipped file gives 01's sheets
  pub patterns : PatternCalls code.makers
  -- 4: which rounds of two sheets with one K are accepted, whose witness two of them give, that the holders of either witness make
  -- exactly the accepted rounds with a challenge, each from a single choice, and that a session answers one challenge at most
  pub one_of_two : OrProof code.files code.runs code.either
  -- 5: comparing the commitments of two rounds of a file answers 1 exactly where all 4s commitment bytes agree
  pub words : WordsCompare code.files
  -- 6: what the combiner of a team answers is the round that a single Peggy with the joined witness and the joined nonce sends; where
  -- all parts are accepted under their own images so is the whole, and where exactly one is rejected it is rejected with the same rows
  pub team : TeamWorks code.files code.runs code.team
  -- 7, beside the calls of 01: a round file that converts is put into the lent buffer in the other version and converts back to its
  -- own bytes
  pub sixteen_bits : Converts code.files
  -- and reads there as it did, verdict by verdict
  pub loses_nothing : LosesNothing code.files code.runs code.marker
  -- 8: a verdict that rejects carries exactly the rows whose two sides differ, in a session or out of one, and on both sides of the OR
  -- proof
  pub rows : AllRows code.files code.runs code.either
  -- 9: over any calls a watch remembers the last 63 accepted rounds that came with its sheet's bytes; of an accepted round it names the
  -- nearest of them with the same commitment and another challenge, with the witness that the extractor gives for the two, and none
  -- exactly if there is no such round
  pub watch : WatchWorks code.files code.runs code.watches
  -- 10: the maker of sheets from linear forms puts the sheet of kind 1 whose entries are the products of the generators' powers into the
  -- buffer, and the sheet's image of every secret is the formula of Maurer's section 6.5
  pub linear : LinearSheets code.files code.linear
  -- 11: of two sheets that differ at most in their statements z and z' two accepted rounds with one challenge multiply to an accepted
  -- round for z·z', and extracting from two such products gives the two sheets' extracted witnesses, joined
  pub multiply : ProductsWork code.files code.runs
  -- 12: for every sheet that loads, Peggy can name a commitment that answers every challenge exactly if the statement has a witness;
  -- without one each answers at most one challenge, with one all or none
  pub game : (sheet : List ℕ) → (code.files.load sheet).refusal ≡ 0 → Game code.runs sheet
  -- and for round 0's commitment the text has a line for each challenge that it answers, with the smallest response in slot order
  pub game_text_law : GamePrints code.files code.runs code.games
  -- 13: over any calls on Peggy's session, each given the record last handed back, no commitment gets two answers; what is saved under a
  -- name stays, its nonce too, until the name is saved under again, and a return brings exactly it back
  pub saved : SavedStates code.runs
  -- 14: the checker of a ledger accepts exactly if 01's judging call accepts each product line's round, and else names the first that it
  -- rejects; the writer makes commitments to the given values, to their sums and to their products, with honest rounds, and the checker
  -- accepts them; two accepted rounds of a product line open its first factor, and open it to the two values multiplied
  pub ledger : LedgerHolds code.files code.runs code.makers code.ledgers
