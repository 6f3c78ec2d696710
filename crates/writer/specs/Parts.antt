-- The entries of a sheet as its writer stores them, row by row (01, "The sheet").
-- Assumes nothing.
use Rattle.std.specs.Prelude.{ℕ, cond, get_or}
use mathlib.Core.List.{List, [], flatten}
use Rattle.types.specs.declared.Header.{Header}
use Rattle.encoding.specs.Bytes.{bytes_of_each}
use Rattle.lists.specs.Places.{tabulate, places}
use Rattle.sigma.specs.Instance.{is_exponent}

-- the bytes of the first i rows of entries, the given count of columns each
unfoldable pub rows_bytes : ℕ → List (List ℕ) → ℕ → List ℕ
rows_bytes columns entries i = bytes_of_each 4 (flatten (tabulate i (λ r. places columns (get_or entries r []))))

-- the bytes of the entries: those of all rows in kind 1, none in kind 2
unfoldable pub entries_bytes : Header → List (List ℕ) → List ℕ
entries_bytes h entries = cond (is_exponent h) (rows_bytes h.columns entries h.rows) []
