-- Laws that the proofs of the functions cite, by topic.
pub mod FixedFields
pub mod ShapeNumber
pub mod SheetRows
pub mod ElementNumber
pub mod LoadSteps
pub mod Answers
pub mod OnLoaded
pub mod SheetLoads
