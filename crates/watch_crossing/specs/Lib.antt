-- The form in which a watch's answer crosses, and what each of its fields is.
pub mod Answers
pub mod WatchCrosses
