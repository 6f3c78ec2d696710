-- The bytes of a sheet (01, "The sheet"), read as values.
-- Assumes nothing.
use Rattle.std.specs.Prelude.{ℕ, ◌+◌, ◌*◌, cond, List, replicate}
use Rattle.types.specs.declared.Header.{Header}
use Rattle.encoding.specs.Bytes.{number_at, words_at}
use Rattle.lists.specs.Places.{eight_by_eight, pad8, zeros8}
use Rattle.encoding.specs.Text.{ascii}
use Rattle.sigma.specs.Instance.{Instance, is_exponent}

-- bytes 0..2
unfoldable pub sheet_mark : List ℕ
sheet_mark = ascii "HOM"

-- the version, bytes 3..4
unfoldable pub version_of : List ℕ → ℕ
version_of s = number_at 2 s 3

-- the fixed fields, bytes 5..19
unfoldable pub header_of : List ℕ → Header
header_of s =
    record {
      kind = number_at 1 s 5;
      modulus = number_at 4 s 6;
      order = number_at 4 s 10;
      challenges = number_at 4 s 14;
      rows = number_at 1 s 18;
      columns = number_at 1 s 19;
    }

-- how many entries a sheet has: s × n in kind 1, none in kind 2
unfoldable pub entry_count : Header → ℕ
entry_count h = cond (is_exponent h) (h.rows * h.columns) 0

-- the length that a header gives: the fixed fields, the entries and the statement
unfoldable pub sheet_length : Header → ℕ
sheet_length h = 20 + 4 * entry_count h + 4 * h.rows

-- eight rows of eight zeros
unfoldable pub zeros64 : List (List ℕ)
zeros64 = replicate 8 zeros8

-- the entries, row by row from byte 20 on; all 0 in kind 2
unfoldable pub entries_of : List ℕ → Header → List (List ℕ)
entries_of s h =
    cond (is_exponent h) (eight_by_eight h.rows h.columns (λ i j. number_at 4 s (20 + 4 * (h.columns * i + j)))) zeros64

-- the statement, behind the entries
unfoldable pub statement_of : List ℕ → Header → List ℕ
statement_of s h = pad8 0 (words_at s (20 + 4 * entry_count h) h.rows)

-- the values of a sheet
unfoldable pub instance_of : List ℕ → Instance
instance_of s =
    record { header = header_of s; entries = entries_of s (header_of s); statement = statement_of s (header_of s) }
