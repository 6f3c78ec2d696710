-- Laws that the proofs of the functions cite, by topic.
pub mod Fits
pub mod Listing
pub mod States
