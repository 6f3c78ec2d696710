-- Pattern files, the sheet maker over them, and what a pattern means.
pub mod Pattern
pub mod PatternFile
pub mod Maker
pub mod Table
pub mod Refusals
pub mod Meaning
pub mod MakerCalls
pub mod Ours
pub mod PatternCalls
pub mod Same
pub mod Corollaries
pub mod RunsWhere
