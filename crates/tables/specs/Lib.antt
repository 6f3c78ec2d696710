-- The forms in which a table crosses.
pub mod Flat
pub mod TablesCross
