-- All that crosses does so field by field.
pub mod Crosses
