-- The reason why a sheet, a round file or its round 0 is turned down, as the one line that is printed (02, cards 1 and 8). The numbers
-- are found on the bytes at hand, and a length that is printed is handed in, since a file may be longer than what is kept of it.
-- Assumes nothing.
use Rattle.std.specs.Prelude.{ℕ, ◌+◌, ◌*◌, not, cond, ◌||◌, eqb, ltb, get_or, length}
use mathlib.Core.List.{List, ◌++◌, flatten, map}
use Rattle.types.specs.declared.Header.{Header}
use Rattle.types.specs.declared.Round.{Round}
use Rattle.types.specs.declared.Verdict.{Verdict}
use Rattle.types.specs.declared.Verdict.TheVariants.{Accepted, Rejected, Refused}
use Rattle.reasons.specs.declared.Spot.{Spot}
use Rattle.reasons.specs.declared.Spot.TheVariants.{At, Length}
use Rattle.numbers.specs.Search.{find}
use Rattle.encoding.specs.Bytes.{number_at}
use Rattle.encoding.specs.Text.{ascii, decimal}
use Rattle.rules.specs.Answer.{unless_refused}
use Rattle.formats.specs.RoundCalls.{check_round, fetch_round}
use Rattle.formats.specs.RoundFile.{challenge_width, count_field, file_version, round_mark, unknown_version}
use Rattle.formats.specs.Sheet.{entry_count, header_of, instance_of}
use Rattle.sigma.specs.Answer.{outcome, rows_of}
use Rattle.sigma.specs.Comparison.{differ}
use Rattle.sigma.specs.Element.{is_coordinate, is_element}
use Rattle.sigma.specs.Image.{image}
use Rattle.sigma.specs.Instance.{table_of}
use Rattle.sigma.specs.Round.{expected_image}
use Rattle.runs.specs.Calls.{judge_round}

-- the first of n numbers, a word each from byte `start` on, that is no group element
unfoldable pub first_non_element : Header → List ℕ → ℕ → ℕ → ℕ
first_non_element h bytes start n = find (λ i. not (is_element h (number_at 4 bytes (start + 4 * i)))) 0 n

-- the first of n numbers, a word each from byte `start` on, that is no domain slot
unfoldable pub first_non_coordinate : Header → List ℕ → ℕ → ℕ → ℕ
first_non_coordinate h bytes start n = find (λ j. not (is_coordinate h (number_at 4 bytes (start + 4 * j)))) 0 n

-- where the value of a sheet stands that breaks rule n, 2 to 11; the sheet has so many bytes in all
unfoldable pub sheet_spot : List ℕ → ℕ → ℕ → Spot
sheet_spot s found n =
    let h : Header = header_of s in
    cond (eqb n 2) (cond (ltb found 20) (Length found) (At 0))
    (cond (eqb n 3) (At 3)
    (cond (eqb n 4) (At 5)
    (cond (eqb n 5) (At 6)
    (cond (eqb n 6) (At 10)
    (cond (eqb n 7) (cond (ltb h.rows 1 || ltb 8 h.rows) (At 18) (At 19))
    (cond (eqb n 8) (At 14)
    (cond (eqb n 9) (Length found)
    (cond (eqb n 10) (At (20 + 4 * first_non_element h s 20 (h.rows * h.columns)))
    (At (20 + 4 * entry_count h + 4 * first_non_element h s (20 + 4 * entry_count h) h.rows))))))))))

-- where the value of a round file stands that breaks rule 12 or 13; the file has so many bytes in all
unfoldable pub file_spot : List ℕ → ℕ → ℕ → Spot
file_spot f found n =
    cond (eqb n 13) (At 5)
    (cond (ltb found 7) (Length found)
    (cond (differ 3 f round_mark) (At 0)
    (cond (unknown_version (file_version f)) (At 3)
    (cond (ltb 512 (count_field f)) (At 5) (Length found)))))

-- where the value of round 0 stands that breaks rule 14, 15 or 16
unfoldable pub round_spot : Header → List ℕ → ℕ → Spot
round_spot h f n =
    let challenge : ℕ = 7 + 4 * h.rows in
    let response : ℕ = challenge + challenge_width f in
    cond (eqb n 14) (At (7 + 4 * first_non_element h f 7 h.rows))
    (cond (eqb n 15) (At challenge) (At (response + 4 * first_non_coordinate h f response h.columns)))

-- the same of rule n, 2 to 16
unfoldable pub spot_of : List ℕ → ℕ → List ℕ → ℕ → ℕ → Spot
spot_of s found_sheet f found_file n =
    cond (ltb n 12) (sheet_spot s found_sheet n)
    (cond (ltb n 14) (file_spot f found_file n) (round_spot (header_of s) f n))

-- the verdict on round 0, or the number by which the sheet or the file is refused
unfoldable pub first_verdict : List ℕ → List ℕ → Verdict
first_verdict s f =
    unless_refused (check_round s f 0) (judge_round s (fetch_round s f 0).round) (Refused (check_round s f 0))

-- the number of the refusal that is explained, 0 where there is none
unfoldable pub reason_number : List ℕ → List ℕ → ℕ
reason_number s f = (outcome (first_verdict s f)).number

-- an offset, or the word `length` and a length
unfoldable pub spot_text : Spot → List ℕ
spot_text (At offset) = decimal offset
spot_text (Length found) = ascii "length " ++ decimal found

-- a row and its two sides, each with a space before it
unfoldable pub row_text : List ℕ → List ℕ → ℕ → List ℕ
row_text left right row =
    ascii " " ++ decimal row ++ ascii " " ++ decimal (get_or left row 0) ++ ascii " " ++ decimal (get_or right row 0)

-- what the line says: the two sides of the round are [r] and t · z^c
unfoldable pub line_text : Verdict → (ℕ → Spot) → List ℕ → List ℕ → List ℕ
line_text Accepted spot left right = ascii "accepted\n"
line_text (Rejected mask) spot left right = ascii "rejected" ++ flatten (map (row_text left right) (rows_of mask)) ++ ascii "\n"
line_text (Refused number) spot left right = ascii "refused " ++ decimal number ++ ascii " " ++ spot_text (spot number) ++ ascii "\n"

-- the line on the bytes at hand of two files that have so many bytes in all
unfoldable pub reason_line : List ℕ → ℕ → List ℕ → ℕ → List ℕ
reason_line s found_sheet f found_file =
    let round : Round = (fetch_round s f 0).round in
    line_text (first_verdict s f) (spot_of s found_sheet f found_file)
    (image (table_of (instance_of s)) round.response)
    (expected_image (instance_of s) round.commitment round.challenge)

-- the line on a sheet and a round file
unfoldable pub reason_text : List ℕ → List ℕ → List ℕ
reason_text s f = reason_line s (length s) f (length f)
