-- Laws for the writers of text.
pub mod Laws
