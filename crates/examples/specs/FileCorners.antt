-- Refusals 12, 13, 15 and 22 of the calls on round files (01, "A round"; 02, cards 5 and 7) and what the marker fails (02, card 3), by each
-- part of their conditions: a row for each field of a file, each of its rounds and each byte of a commitment.
-- Assumes nothing.
use Rattle.std.specs.Prelude.{ℕ, ◌-◌, ◌≡◌, drop, length, replicate, take}
use mathlib.Core.List.{List, [], ◌∷◌, ◌++◌, flatten, map}
use Rattle.encoding.specs.Text.{ascii}
use Rattle.formats.specs.Append.{append}
use Rattle.formats.specs.RoundCalls.{check_round, count_rounds, fetch_round, part_of_round}
use Rattle.formats.specs.SameCommitment.{same_commitment}
use Rattle.games.specs.Text.{game_refusal}
use Rattle.runs.specs.Marker.{mark_refusal, marker_text}
use Rattle.examples.specs.Corners.{Corner, changed, converting, no_bytes, zeros_file}
use Rattle.examples.specs.MarkerExample.{example_file, narrow_file}
use Rattle.examples.specs.Pages.{repeated, small_round}
use Rattle.examples.specs.Sheets.{schnorr_sheet}
use Rattle.examples.specs.TeamPage.{pair_bytes}
use Rattle.examples.specs.TwoRows.{narrow, wide}

-- ---- reading

-- the numbers of the calls that read a file, for its round 0
unfoldable pub reading_file : List ℕ → List ℕ
reading_file f =
    (count_rounds schnorr_sheet f).refusal ∷ check_round schnorr_sheet f 0 ∷ (fetch_round schnorr_sheet f 0).refusal ∷
    (same_commitment schnorr_sheet f 0 0).refusal ∷ mark_refusal schnorr_sheet f (7 ∷ []) ∷ converting f 55 ∷
    game_refusal schnorr_sheet f ∷ []

-- files that 12 refuses by one field alone: each byte of the mark, the version by both its bytes, a count of 513, and the length
unfoldable pub bad_files : List (List ℕ)
bad_files =
    changed example_file 0 0x53 ∷ changed example_file 1 0x4F ∷ changed example_file 2 0x45 ∷ changed example_file 4 0 ∷
    changed example_file 4 3 ∷ changed example_file 3 1 ∷ changed narrow_file 3 1 ∷ zeros_file 2 1 6156 ∷ take 54 example_file ∷
    (example_file ++ 0 ∷ []) ∷ take 46 narrow_file ∷ (narrow_file ++ 0 ∷ []) ∷ []

-- the numbers of the calls that take a round number, and of the one that takes two, for k in either place
unfoldable pub reading_round : List ℕ → ℕ → List ℕ
reading_round f k =
    check_round schnorr_sheet f k ∷ (fetch_round schnorr_sheet f k).refusal ∷ (same_commitment schnorr_sheet f k 0).refusal ∷
    (same_commitment schnorr_sheet f 0 k).refusal ∷ []

-- how long the part of round k is
unfoldable pub part_length : List ℕ → ℕ → ℕ
part_length f k = length (part_of_round schnorr_sheet f k)

-- ---- writing

-- the record writer's number for a file, in a buffer with room for one record more
unfoldable pub appending_to : List ℕ → ℕ
appending_to f = (append schnorr_sheet (f ++ replicate 12 0) (length f) (small_round 9 3 4)).answer.refusal

-- ---- two records of page E's sheet

-- a file of one round with its record twice
unfoldable pub twice : List ℕ → List ℕ
twice f = changed f 6 2 ++ drop 7 f

-- whether records 0 and 1 have the same commitment
unfoldable pub alike : List ℕ → ℕ
alike f = (same_commitment pair_bytes f 0 1).same

-- ---- the marker

-- page A's round three times, with another response in one of them: byte 11 of a record
unfoldable pub one_of_three : ℕ → List (List ℕ)
one_of_three r = map (λ at. changed (repeated 3 9 3 4) at r) (18 ∷ 30 ∷ 42 ∷ [])

-- the marker's last line at the least level
unfoldable pub last_of : List ℕ → List ℕ
last_of f =
    let text : List ℕ = marker_text schnorr_sheet f (1 ∷ []) in
    drop (length text - 5) text

pub record FileCorners : Type 0 where
  -- every call that reads a file, and the record writer
  pub reading12 : Corner 12 (reading_file example_file ++ reading_file narrow_file) (flatten (map reading_file bad_files))
  pub writing12 : Corner 12 (map appending_to (no_bytes ∷ example_file ∷ narrow_file ∷ [])) (map appending_to bad_files)
  -- a round number, alone and in either place of two
  pub reading13 :
      Corner 13 (flatten (map (reading_round example_file) (0 ∷ 3 ∷ []))) (flatten (map (reading_round example_file) (4 ∷ 5 ∷ 65536 ∷ [])))
  -- the part of a round is empty where the file or the number is refused
  pub parts : map (part_length example_file) (0 ∷ 3 ∷ 4 ∷ []) ++ map (part_length narrow_file) (0 ∷ 3 ∷ 4 ∷ [])
      ≡ 12 ∷ 12 ∷ 0 ∷ 10 ∷ 10 ∷ 0 ∷ []
  pub no_parts : map (λ f. part_length f 0) bad_files ≡ replicate 12 0
  -- the converter: a challenge of 65,536 in each of four records
  pub converting15 :
      Corner 15 (converting example_file 47 ∷ [])
      (map (λ at. converting (changed example_file at 1) 47) (12 ∷ 24 ∷ 36 ∷ 48 ∷ []))
  -- 22 of it and of the record writer, for files with rounds
  pub writing22 : Corner 22 []
      (converting example_file 0 ∷ converting (changed no_bytes 4 2) 6 ∷ converting no_bytes 6 ∷
      (append schnorr_sheet (example_file ++ replicate 11 0) 55 (small_round 9 3 4)).answer.refusal ∷
      (append schnorr_sheet (narrow_file ++ replicate 9 0) 47 (small_round 9 3 4)).answer.refusal ∷ [])
  -- equal commitments, in both versions: each of the eight bytes counts, and no byte of the challenge or of the response
  pub wide_bytes_law : map alike
      (twice (wide (9 ∷ 6 ∷ []) 3 (4 ∷ [])) ∷
      map (λ at. changed (twice (wide (9 ∷ 6 ∷ []) 3 (4 ∷ []))) at 7)
      (23 ∷ 24 ∷ 25 ∷ 26 ∷ 27 ∷ 28 ∷ 29 ∷ 30 ∷ 31 ∷ 32 ∷ 33 ∷ 34 ∷ 35 ∷ 36 ∷ 37 ∷ 38 ∷ []))
      ≡ 1 ∷ replicate 8 0 ++ replicate 8 1
  pub narrow_bytes : map alike
      (twice (narrow (9 ∷ 6 ∷ []) 3 (4 ∷ [])) ∷
      map (λ at. changed (twice (narrow (9 ∷ 6 ∷ []) 3 (4 ∷ []))) at 7)
      (21 ∷ 22 ∷ 23 ∷ 24 ∷ 25 ∷ 26 ∷ 27 ∷ 28 ∷ 29 ∷ 30 ∷ 31 ∷ 32 ∷ 33 ∷ 34 ∷ []))
      ≡ 1 ∷ replicate 8 0 ++ replicate 6 1
  -- a file fails by one rejected round or one refused, whichever of three it is, and by a row that is not the first
  pub fails : map last_of (one_of_three 4 ++ one_of_three 5 ++ one_of_three 11) ≡ replicate 3 (ascii "pass\n") ++ replicate 6 (ascii "fail\n")
  pub fails_later :
      marker_text pair_bytes (wide (9 ∷ 9 ∷ []) 3 (4 ∷ [])) (1 ∷ []) ≡ ascii "rounds 1\n0 rejected 1\nfail\n"
