-- Definitions of fields: a mark.
pub mod Mark
