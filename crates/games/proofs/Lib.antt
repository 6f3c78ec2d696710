-- Laws of Peggy against Vic, and that the demands determine the text.
pub mod Slots
pub mod Game
pub mod Smallest
pub mod Lines
pub mod FirstByte
pub mod Tests
pub mod Number
pub mod Words
pub mod WordsAgree
pub mod Playing
pub mod Length
pub mod Cut
pub mod Corollaries
pub mod RunsWhere
pub mod Only
pub mod Search
