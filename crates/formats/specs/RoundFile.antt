-- The bytes of a round file (01, "A round"; 02, card 7): seven bytes and then the records. The width of a stored challenge is a
-- parameter of the layout, and `width_of` has it for each version of a file.
-- Assumes nothing.
use Rattle.std.specs.Prelude.{ℕ, ◌+◌, ◌*◌, Bool, cond, not, ◌||◌, List, ◌++◌, eqb, ltb, length, take}
use Rattle.types.specs.declared.Header.{Header}
use Rattle.types.specs.declared.Round.{Round}
use Rattle.encoding.specs.Bytes.{number_at, words_at, bytes_of, bytes_of_each}
use Rattle.lists.specs.Places.{places, pad8}
use Rattle.encoding.specs.Text.{ascii}
use Rattle.sigma.specs.Comparison.{differ}

-- bytes 0..2
unfoldable pub round_mark : List ℕ
round_mark = ascii "RND"

-- the version, bytes 3..4
unfoldable pub file_version : List ℕ → ℕ
file_version f = number_at 2 f 3

-- the round count, bytes 5..6
unfoldable pub count_field : List ℕ → ℕ
count_field f = number_at 2 f 5

-- a version other than 1 and 2
unfoldable pub unknown_version : ℕ → Bool
unknown_version version = not (eqb version 1 || eqb version 2)

-- the width in bytes of a challenge in a file of the version: 2 in version 2, else 4
unfoldable pub width_of : ℕ → ℕ
width_of version = cond (eqb version 2) 2 4

-- the width of a file's challenges
unfoldable pub challenge_width : List ℕ → ℕ
challenge_width f = width_of (file_version f)

-- the width of the challenges of the file that the first bytes of a buffer are
abbrev pub width_in_use : List ℕ → ℕ → ℕ
width_in_use buffer used = challenge_width (take used buffer)

-- a record's length: t, c and r
unfoldable pub record_length : ℕ → Header → ℕ
record_length width h = 4 * h.rows + width + 4 * h.columns

-- where record k begins
unfoldable pub record_start : ℕ → Header → ℕ → ℕ
record_start width h k = 7 + k * record_length width h

-- the bytes of a record; s places of t and n places of r are read
unfoldable pub record_bytes : ℕ → Header → Round → List ℕ
record_bytes width h round =
    bytes_of_each 4 (places h.rows round.commitment) ++ bytes_of width round.challenge ++
    bytes_of_each 4 (places h.columns round.response)

-- the values of the record that begins at `at`
unfoldable pub round_at : ℕ → Header → List ℕ → ℕ → Round
round_at width h f at =
    record {
      commitment = pad8 0 (words_at f at h.rows);
      challenge = number_at width f (at + 4 * h.rows);
      response = pad8 0 (words_at f (at + 4 * h.rows + width) h.columns);
    }

-- under 7 bytes, another mark, a version other than 1 and 2, a count above 512 or a length that does not fit (12)
unfoldable pub bad_file : Header → List ℕ → Bool
bad_file h f =
    ltb (length f) 7 || differ 3 f round_mark || unknown_version (file_version f) || ltb 512 (count_field f) ||
    not (eqb (length f) (record_start (challenge_width f) h (count_field f)))

-- the file of no rounds, in a version
unfoldable pub no_rounds : ℕ → List ℕ
no_rounds version = round_mark ++ bytes_of 2 version ++ bytes_of 2 0
