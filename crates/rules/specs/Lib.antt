-- Definitions of refusals and of what a test says.
pub mod Rule
pub mod Order
pub mod Answer
pub mod Call
pub mod Says
pub mod Condition
pub mod Refuses
pub mod Either
