pub mod Rule
pub mod Share
