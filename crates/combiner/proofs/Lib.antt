-- Laws that the proofs of the functions cite, by topic.
pub mod Turns
pub mod TeamNumber
pub mod SheetNumber
pub mod Rows
