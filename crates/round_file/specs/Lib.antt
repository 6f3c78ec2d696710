-- What the functions on loaded fixed fields give, as the records that cross.
pub mod Results
