-- Laws of the linear maker.
pub mod PlanTests
pub mod EntryProduct
pub mod Answers
