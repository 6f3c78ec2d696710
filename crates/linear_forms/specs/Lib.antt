-- Sheets from linear forms.
pub mod LinearPlan
pub mod LinearCrosses
pub mod Refusals
pub mod Linear
pub mod LinearCalls
pub mod LinearSheets
pub mod RunsWhere
pub mod Same
pub mod Ours
