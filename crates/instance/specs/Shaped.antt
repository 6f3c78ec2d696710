-- What the readers of entries and statement ask of a sheet.
-- Assumes nothing.
use Rattle.std.specs.Prelude.{ℕ, ◌≤◌, ◌≡◌, List, length}
use Rattle.types.specs.declared.Header.{Header}
use Rattle.formats.specs.Sheet.{sheet_length}

-- the fixed fields have at most eight rows and columns and give the sheet's length
pub record Shaped (s : List ℕ) (h : Header) : Type 0 where
  pub few_rows : h.rows ≤ 8
  pub few_columns : h.columns ≤ 8
  pub exact : length s ≡ sheet_length h
