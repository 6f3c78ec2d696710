-- Laws of sheets from linear forms, and that the demands determine their maker.
pub mod Tests
pub mod OfPlan
pub mod Image
pub mod Making
pub mod LinearSheets
pub mod RunsWhere
pub mod Only
pub mod LinearCrosses
