-- Laws of the search, by topic.
pub mod Sizes
pub mod Counting
pub mod Digits
pub mod ImageTable
pub mod ImageRows
pub mod Found
pub mod RootTable
pub mod Answers
