-- What is demanded of the calls, that nothing else meets it, and what shows it and follows from it.
pub mod Calls
pub mod Refusals
pub mod RunsWhere
pub mod Arithmetic
pub mod ReadsBack
pub mod MarksFiles
pub mod AllRows
pub mod Cards
pub mod Demands
pub mod Ours
pub mod Same
pub mod Evidence
pub mod Corollaries
