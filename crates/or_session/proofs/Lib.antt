-- Laws that the proofs of the functions cite, by topic.
pub mod States
pub mod Steps
pub mod OwnSide
pub mod SideValues
pub mod SideTests
