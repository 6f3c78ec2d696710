-- Laws on the two forms of a table.
pub mod Entries
pub mod Flat
pub mod TablesCross
