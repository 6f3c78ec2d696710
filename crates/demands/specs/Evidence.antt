-- Worked pages and corners, computed with the calls as they are defined (01, "Calculator pages"): evidence for a reader, and nothing
-- that has to be believed.
-- Assumes nothing.
use Rattle.examples.specs.AnswerPage.{AnswerPage}
use Rattle.examples.specs.Corners.{EveryCorner}
use Rattle.examples.specs.FileCorners.{FileCorners}
use Rattle.examples.specs.GameCorners.{GameCorners}
use Rattle.examples.specs.GamePage.{GamePage}
use Rattle.examples.specs.LedgerCorners.{LedgerCorners}
use Rattle.examples.specs.LedgerPage.{LedgerPage}
use Rattle.examples.specs.LinearCorners.{LinearCorners}
use Rattle.examples.specs.LinearPage.{LinearPage}
use Rattle.examples.specs.OrCorners.{OrCorners}
use Rattle.examples.specs.OrPage.{OrPage}
use Rattle.examples.specs.Pages.{EveryPage}
use Rattle.examples.specs.PatternCorners.{PatternCorners}
use Rattle.examples.specs.ProductsPage.{ProductsPage}
use Rattle.examples.specs.ReasonPage.{ReasonPage}
use Rattle.examples.specs.RoundCorners.{RoundCorners}
use Rattle.examples.specs.RowsPage.{RowsPage}
use Rattle.examples.specs.SavedCorners.{SavedCorners}
use Rattle.examples.specs.SavedPage.{SavedPage}
use Rattle.examples.specs.SessionPage.{SessionPage}
use Rattle.examples.specs.SheetCorners.{SheetCorners}
use Rattle.examples.specs.TeamCorners.{TeamCorners}
use Rattle.examples.specs.TeamPage.{TeamPage}
use Rattle.examples.specs.WatchCorners.{WatchCorners}
use Rattle.examples.specs.WatchPage.{WatchPage}

pub record Evidence : Type 0 where
  -- 01's starred pages, and texts of the marker and the reason byte by byte
  pub pages : EveryPage
  -- for each refusal inputs on both sides of its bounds
  pub corners : EveryCorner
  -- for each part of each condition an input that it alone refuses
  pub sheet_corners : SheetCorners
  pub pattern_corners : PatternCorners
  pub file_corners : FileCorners
  pub round_corners : RoundCorners
  pub or_corners : OrCorners
  pub team_corners : TeamCorners
  pub watch_corners : WatchCorners
  pub linear_corners : LinearCorners
  pub game_corners : GameCorners
  pub saved_corners : SavedCorners
  pub ledger_corners : LedgerCorners
  -- the reason's whole line for every number and each of its causes
  pub reason_page : ReasonPage
  -- a worked pair of sheets for the OR proof
  pub or_page : OrPage
  -- the whole answer to each call, carried out and refused: on sheets, files and rounds, and on sessions with all that is held
  pub answer_page : AnswerPage
  pub session_page : SessionPage
  -- worked teams
  pub team_page : TeamPage
  -- worked rows that differ
  pub rows_page : RowsPage
  -- a worked watch
  pub watch_page : WatchPage
  -- worked sheets from linear forms
  pub linear_page : LinearPage
  -- worked rounds that multiply
  pub products_page : ProductsPage
  -- worked games
  pub game_page : GamePage
  -- a worked demonstrator who returns to saved states
  pub saved_page : SavedPage
  -- worked ledgers
  pub ledger_page : LedgerPage
