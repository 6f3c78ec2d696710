-- Laws of the form in which a watch's answer crosses.
pub mod WatchCrosses
