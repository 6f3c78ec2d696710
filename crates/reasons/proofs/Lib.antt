-- Laws of the reason: the spot of each number, the line and how long it is, long files, and that the reason is true.
pub mod Named
pub mod Words
pub mod SheetSpots
pub mod FileSpots
pub mod RoundSpots
pub mod Apart
pub mod Line
pub mod Judged
pub mod Length
pub mod Cut
pub mod ReasonsTrue
pub mod Only
