-- Definitions of the reason, and what makes it true.
pub mod ReasonCalls
pub mod Breaks
pub mod Reason
pub mod Lines
pub mod ReasonsTrue
pub mod Corollaries
pub mod Same
pub mod Ours
