-- The sizes of a pattern as they are read, and the test of a file's patterns one after another (02, card 2, 23).
-- Assumes nothing.
use Rattle.std.specs.Prelude.{ℕ, ◌+◌, ◌*◌, Bool, not, ◌||◌, List, [], eqb, length, get_or}
use Rattle.numbers.specs.Search.{any}
use Rattle.patterns.specs.PatternFile.{bad_sizes, pattern_at, pattern_start}
use Rattle.pattern_file.specs.declared.layout.Sizes.{Sizes}

-- the sizes of the pattern that begins at `at`, and how many digits it has
unfoldable pub sizes_at : List ℕ → ℕ → Sizes
sizes_at f at =
    record {
      rows = get_or f at 0;
      columns = get_or f (at + 1) 0;
      values = get_or f (at + 2) 0;
      digits = get_or f at 0 * get_or f (at + 1) 0;
    }

-- rows, columns or number of public values lie outside 1 to 8
unfoldable pub wrong_sizes : Sizes → Bool
wrong_sizes p = bad_sizes (record { rows = p.rows; columns = p.columns; values = p.values; digits = [] })

-- one of so many patterns has a wrong size, or the last does not end where the file does
unfoldable pub bad_patterns : List ℕ → ℕ → Bool
bad_patterns f count = any count (λ k. bad_sizes (pattern_at f k)) || not (eqb (length f) (pattern_start f count))
