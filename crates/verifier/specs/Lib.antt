-- What the calls on Vic's session answer.
pub mod Steps
