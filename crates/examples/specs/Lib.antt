-- 01's calculator pages, the marker's example, a worked pair of sheets for the OR proof, worked sessions, worked teams, worked rows
-- that differ, a worked watch, worked linear forms, worked rounds that multiply, worked games, a worked demonstrator with saved states,
-- worked ledgers, the reason's lines, whole answers of the calls, and the corners of each part of each refusal's condition.
pub mod Sheets
pub mod Pages
pub mod MarkerExample
pub mod Corners
pub mod OrPage
pub mod SessionPage
pub mod TeamPage
pub mod RowsPage
pub mod WatchPage
pub mod GamePage
pub mod SavedPage
pub mod LedgerPage
pub mod TwoRows
pub mod ReasonPage
pub mod RoundCorners
pub mod SheetCorners
pub mod PatternCorners
pub mod FileCorners
pub mod OrCorners
pub mod TeamCorners
pub mod WatchCorners
pub mod GameCorners
pub mod SavedCorners
pub mod LedgerCorners
pub mod AnswerPage
pub mod LinearPage
pub mod LinearCorners
pub mod ProductsPage
