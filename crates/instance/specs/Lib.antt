-- Definitions of what the functions that read a sheet by rows ask and answer, and of a sheet's values, which are Valid in one way.
pub mod Rows
pub mod Shaped
pub mod Once
pub mod Values
