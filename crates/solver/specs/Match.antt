-- The first candidate whose image is the expected one, in a table of images, and what a search that may find none answers.
-- Assumes nothing.
use Rattle.std.specs.Prelude.{ℕ, ◌+◌, ◌*◌, Bool, not, List, Option, Some, None, cond, eqb, get_or, ltb}
use Rattle.numbers.specs.Search.{any, find}

-- the values from a start on are the expected ones, in so many rows
unfoldable pub rows_agree : List ℕ → ℕ → ℕ → List ℕ → Bool
rows_agree table start rows expected = not (any rows (λ i. not (eqb (get_or table (start + i) 0) (get_or expected i 0))))

-- the first of count candidates, and count if there is none
unfoldable pub first_match : List ℕ → ℕ → ℕ → List ℕ → ℕ
first_match table count rows expected = find (λ k. rows_agree table (k * rows) rows expected) 0 count

-- what a search among count candidates answers, where first is the first that passes and count if there is none
unfoldable pub found : ℕ → ℕ → Option ℕ
found count first = cond (ltb first count) (Some first) None
