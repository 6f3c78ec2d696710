-- The entries of a sheet by rows: how they are read, and whether an entry is no group element.
-- Assumes nothing.
use Rattle.std.specs.Prelude.{ℕ, ◌+◌, ◌*◌, Bool, ◌&&◌, List, [], get_or}
use Rattle.types.specs.declared.Header.{Header}
use Rattle.numbers.specs.Search.{any}
use Rattle.lists.specs.Places.{eight_by_eight}
use Rattle.encoding.specs.Bytes.{number_at}
use Rattle.sigma.specs.Instance.{is_exponent}
use Rattle.sigma.specs.Element.{some_non_element}

-- the entry in row i and column j of so many columns, from byte 20 on
unfoldable pub entry_at : List ℕ → ℕ → ℕ → ℕ → ℕ
entry_at s columns i j = number_at 4 s (20 + 4 * (columns * i + j))

-- the first n rows of entries, in eight places
unfoldable pub rows_at : List ℕ → ℕ → ℕ → List (List ℕ)
rows_at s columns n = eight_by_eight n columns (entry_at s columns)

-- whether row i has an entry that is no group element
unfoldable pub is_bad_row : Header → List (List ℕ) → ℕ → Bool
is_bad_row h entries i = some_non_element h h.columns (get_or entries i [])

-- whether some row has one; in kind 2 none is read
unfoldable pub some_bad_entry : Header → List (List ℕ) → Bool
some_bad_entry h entries = is_exponent h && any h.rows (is_bad_row h entries)
