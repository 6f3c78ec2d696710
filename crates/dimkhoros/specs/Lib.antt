-- What crosses to other languages, field by field.
pub mod Crosses
