-- Laws of lists.
pub mod Places
pub mod Filling
pub mod Rows
pub mod Each
pub mod Member
pub mod Choices
pub mod Rising
pub mod Words
