-- The demands hold of the calls as they are defined, and of no others.
pub mod Arithmetic
pub mod ReadsBack
pub mod MarksFiles
pub mod AllRows
pub mod OnlyMarker
pub mod Only
pub mod Demands
pub mod Corollaries
