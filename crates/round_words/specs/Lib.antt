-- What comparing gives, as the record that crosses.
pub mod Results
