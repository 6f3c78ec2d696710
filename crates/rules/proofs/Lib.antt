-- Laws of refusals and of what a test says.
pub mod Says
pub mod Lowest
pub mod Answer
pub mod Order
pub mod Condition
pub mod Call
pub mod Told
pub mod Refuses
pub mod Explains
pub mod Either
pub mod Determined
