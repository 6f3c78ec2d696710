-- A mark: the three bytes that a sheet or a round file begins with.
-- Assumes nothing.
use Rattle.std.specs.Prelude.{ℕ, Bool, not, List, eqb, get_or}
use Rattle.numbers.specs.Search.{any}

-- whether s begins with the mark: no place below 3 differs
unfoldable pub has_mark : List ℕ → List ℕ → Bool
has_mark s mark = not (any 3 (λ i. not (eqb (get_or s i 0) (get_or mark i 0))))
