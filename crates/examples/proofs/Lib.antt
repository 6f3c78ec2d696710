-- The theorems on the worked examples: each table is computed.
pub mod Pages
pub mod TeamPage
pub mod RowsPage
pub mod WatchPage
pub mod GamePage
pub mod SavedPage
pub mod LedgerPage
pub mod ReasonPage
pub mod Corners
pub mod WatchCorners
pub mod GameCorners
pub mod SavedCorners
pub mod LedgerCorners
pub mod AnswerPage
pub mod LinearPage
pub mod LinearCorners
pub mod ProductsPage
