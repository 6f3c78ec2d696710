-- The entries of a pattern over its public values, row by row (01, "The patterns").
-- Assumes nothing.
use Rattle.std.specs.Prelude.{ℕ, ◌+◌, ◌*◌, ◌≤◌, ◌<◌, List, length}
use Rattle.lists.specs.Places.{tabulate, pad8}
use Rattle.patterns.specs.Pattern.{Pattern, digit, entry_of}
use Rattle.patterns.specs.PatternFile.{pattern_from}

-- row i, with 0 in the places beyond the columns
unfoldable pub pattern_row : Pattern → List ℕ → ℕ → List ℕ
pattern_row p values i = pad8 0 (tabulate p.columns (λ j. entry_of values (digit p i j)))

-- the pattern that begins at `at` lies within the file and has at most eight rows and columns, and each of its digits is 0 or the
-- position of one of the values
pub record Stands (f : List ℕ) (at : ℕ) (values : List ℕ) : Type 0 where
  pub few_rows : (pattern_from f at).rows ≤ 8
  pub few_columns : (pattern_from f at).columns ≤ 8
  pub within : at + 3 + (pattern_from f at).rows * (pattern_from f at).columns ≤ length f
  pub named : (i j : ℕ) → i < (pattern_from f at).rows → j < (pattern_from f at).columns → digit (pattern_from f at) i j ≤ length values
