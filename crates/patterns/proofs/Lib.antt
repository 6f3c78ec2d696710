-- Laws of pattern files and of the sheet maker over them, and that the demands determine both calls.
pub mod Tests
pub mod Files
pub mod Sheets
pub mod Maker
pub mod Making
pub mod Spelled
pub mod Meaning
pub mod Shipped
pub mod ShippedPuts
pub mod OldMaker
pub mod PatternCalls
pub mod Corollaries
pub mod RunsWhere
pub mod Only
