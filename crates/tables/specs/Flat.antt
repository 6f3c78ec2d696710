-- A sheet's entries in the two forms in which they cross: eight rows of eight, and 64 numbers, row by row.
-- Assumes nothing.
use Rattle.std.specs.Prelude.{ℕ, ◌+◌, ◌*◌, ◌/◌, ◌%◌, List, [], get_or}
use Rattle.types.specs.declared.Header.{Header}
use Rattle.lists.specs.Places.{tabulate}
use Rattle.rules.specs.Answer.{unless_refused}
use Rattle.formats.specs.Load.{load, load_entries}
use Rattle.sigma.specs.Instance.{Instance, instance_with}

-- the number in row k / 8 and column k % 8
unfoldable pub flat_at : List (List ℕ) → ℕ → ℕ
flat_at rows k = get_or (get_or rows (k / 8) []) (k % 8) 0

-- the 64 numbers of eight rows of eight, row by row
unfoldable pub flat : List (List ℕ) → List ℕ
flat rows = tabulate 64 (flat_at rows)

-- the number of column j in row i
unfoldable pub square_at : List ℕ → ℕ → ℕ → ℕ
square_at xs i j = get_or xs (8 * i + j) 0

-- row i of 64 numbers that stand row by row
unfoldable pub square_row : List ℕ → ℕ → List ℕ
square_row xs i = tabulate 8 (square_at xs i)

-- the eight rows of eight of 64 numbers that stand row by row
unfoldable pub square : List ℕ → List (List ℕ)
square xs = tabulate 8 (square_row xs)

-- the values of a sheet whose entries are 64 numbers
abbrev pub flat_instance : Header → List ℕ → List ℕ → Instance
flat_instance h entries statement = instance_with h (square entries) statement

-- what stands in a caller's 64 numbers when a sheet's entries were asked for: the entries, or what stood there where the sheet
-- is refused
unfoldable pub flat_unless_refused : List ℕ → List ℕ → List ℕ
flat_unless_refused sheet before = unless_refused (load sheet).refusal (flat (load_entries sheet)) before
