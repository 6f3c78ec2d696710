-- The bytes of a pattern file (02, card 2): mark, version and count, and then the patterns one after another.
-- Assumes nothing.
use Rattle.std.specs.Prelude.{ℕ, zero, suc, ◌+◌, ◌*◌, Bool, not, ◌||◌, eqb, ltb, length, get_or}
use mathlib.Core.List.{List, ◌∷◌, ◌++◌, map, flatten}
use Rattle.encoding.specs.Bytes.{bytes_of, number_at}
use Rattle.encoding.specs.Text.{ascii}
use Rattle.lists.specs.Places.{tabulate}
use Rattle.numbers.specs.Search.{any}
use Rattle.sigma.specs.Comparison.{differ}
use Rattle.patterns.specs.Pattern.{Pattern}

-- ---- what is read

-- bytes 0..2
unfoldable pub pattern_mark : List ℕ
pattern_mark = ascii "PAT"

-- the version, bytes 3..4
unfoldable pub pattern_version : List ℕ → ℕ
pattern_version f = number_at 2 f 3

-- how many patterns there are, byte 5
unfoldable pub pattern_count : List ℕ → ℕ
pattern_count f = number_at 1 f 5

-- where the pattern that begins at `at` ends: behind three bytes and rows × columns digits
unfoldable pub pattern_end : List ℕ → ℕ → ℕ
pattern_end f at = at + 3 + get_or f at 0 * get_or f (at + 1) 0

-- where pattern k begins, the first being pattern 0
unfoldable pub pattern_start : List ℕ → ℕ → ℕ
pattern_start f zero = 6
pattern_start f (suc k) = pattern_end f (pattern_start f k)

-- the pattern that begins at `at`: rows, columns, number of public values, and the digits
unfoldable pub pattern_from : List ℕ → ℕ → Pattern
pattern_from f at =
    record {
      rows = get_or f at 0;
      columns = get_or f (at + 1) 0;
      values = get_or f (at + 2) 0;
      digits = tabulate (get_or f at 0 * get_or f (at + 1) 0) (λ d. get_or f (at + 3 + d) 0);
    }

-- pattern k
unfoldable pub pattern_at : List ℕ → ℕ → Pattern
pattern_at f k = pattern_from f (pattern_start f k)

-- ---- what is tested

-- rows, columns or number of public values lie outside 1 to 8
unfoldable pub bad_sizes : Pattern → Bool
bad_sizes p =
    ltb p.rows 1 || ltb 8 p.rows || ltb p.columns 1 || ltb 8 p.columns || ltb p.values 1 || ltb 8 p.values

-- under 6 bytes, another mark, a version other than 1, a count outside 1 to 32, a pattern of a wrong size, or a length that is
-- not where the last pattern ends (23)
unfoldable pub bad_pattern_file : List ℕ → Bool
bad_pattern_file f =
    ltb (length f) 6 || differ 3 f pattern_mark || not (eqb (pattern_version f) 1) || ltb (pattern_count f) 1 ||
    ltb 32 (pattern_count f) || any (pattern_count f) (λ k. bad_sizes (pattern_at f k)) ||
    not (eqb (length f) (pattern_start f (pattern_count f)))

-- a digit is above the number of public values, or a value is named by no digit
unfoldable pub misnamed : Pattern → Bool
misnamed p =
    any (p.rows * p.columns) (λ d. ltb p.values (get_or p.digits d 0)) ||
    any p.values (λ v. not (any (p.rows * p.columns) (λ d. eqb (get_or p.digits d 0) (suc v))))

-- a pattern of the file, whichever it is, has such a digit or value (24)
unfoldable pub bad_digits : List ℕ → Bool
bad_digits f = any (pattern_count f) (λ k. misnamed (pattern_at f k))

-- ---- what is written

-- the bytes of a pattern
unfoldable pub pattern_bytes : Pattern → List ℕ
pattern_bytes p = p.rows ∷ p.columns ∷ p.values ∷ p.digits

-- the file of these patterns
unfoldable pub pattern_file : List Pattern → List ℕ
pattern_file ps = pattern_mark ++ bytes_of 2 1 ++ bytes_of 1 (length ps) ++ flatten (map pattern_bytes ps)
