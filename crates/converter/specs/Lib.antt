-- What the converter's functions store.
pub mod Records
