-- Which of 64 numbers that cross is which entry: column j of row i is number 8 i + j, in both directions.
-- Assumes nothing.
use Rattle.std.specs.Prelude.{ℕ, ◌+◌, ◌*◌, ◌<◌, ◌≡◌, List, [], get_or}
use Rattle.types.specs.declared.Header.{Header}
use Rattle.formats.specs.Load.{load, load_entries}
use Rattle.tables.specs.Flat.{flat_instance, flat_unless_refused, square}

pub record TablesCross : Type 0 where
  -- rows that are handed in: entries, and what a team's players bring
  pub rows_in : (xs : List ℕ) (i j : ℕ) → i < 8 → j < 8 → get_or (get_or (square xs) i []) j 0 ≡ get_or xs (8 * i + j) 0
  -- the values of a sheet: its entries so, and its header and statement as they are
  pub sheet_in : (h : Header) (xs z : List ℕ) → flat_instance h xs z ≡ record { header = h; entries = square xs; statement = z }
  -- entries that are handed out, or what stood there if the sheet is refused
  pub entries_out : (sheet before : List ℕ) (i j : ℕ) → (load sheet).refusal ≡ 0 → i < 8 → j < 8
      → get_or (flat_unless_refused sheet before) (8 * i + j) 0 ≡ get_or (get_or (load_entries sheet) i []) j 0
  pub kept : (sheet before : List ℕ) → 0 < (load sheet).refusal → flat_unless_refused sheet before ≡ before
