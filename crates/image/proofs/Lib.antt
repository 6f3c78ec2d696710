-- Laws that the proofs of the functions cite, by topic.
pub mod RowImage
pub mod Slots
pub mod Several
pub mod Unread
pub mod Tested
