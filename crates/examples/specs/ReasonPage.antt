-- The reason's line for each number from 2 to 16 and each cause of it (02, cards 1, 7 and 8; 01, "The sheet", "A round" and "Turned
-- back"), in literal text: each offset is counted by hand in the file's bytes.
-- Assumes nothing.
use Rattle.std.specs.Prelude.{ℕ, ◌≡◌, List, [], ◌∷◌, ◌++◌, map, replicate, take}
use Prim.Native.String.{String}
use Rattle.encoding.specs.Text.{ascii}
use Rattle.reasons.specs.Reason.{reason_text}
use Rattle.examples.specs.Corners.{changed, many_challenges, no_bytes, ones_sheet, root_bytes, zeros_file}
use Rattle.examples.specs.MarkerExample.{example_file, narrow_file}
use Rattle.examples.specs.RowsPage.{eight_rows}
use Rattle.examples.specs.Sheets.{schnorr_sheet, sheet_bytes, small_sheet}
use Rattle.examples.specs.TeamPage.{pair_bytes}
use Rattle.examples.specs.TwoRows.{narrow, two_columns, two_roots, wide}

-- ---- the table's form

-- a row: a sheet, a round file and the line on them
pub record Row : Type 0 where
  pub sheet : List ℕ
  pub file : List ℕ
  pub line : String

-- the line of each row is the reason's
abbrev pub Lines : List Row → Type 0
Lines rows = map (λ row. reason_text row.sheet row.file) rows ≡ map (λ row. ascii row.line) rows

-- a row of any two files
abbrev pub on : List ℕ → List ℕ → String → Row
on sheet file line = record { sheet = sheet; file = file; line = line }

-- a row of a sheet, with the marker's example as round file
abbrev pub on_sheet : List ℕ → String → Row
on_sheet bytes line = on bytes example_file line

-- a row of a round file of page A's sheet
abbrev pub on_file : List ℕ → String → Row
on_file bytes line = on schnorr_sheet bytes line

-- the table
pub record ReasonPage : Type 0 where
  -- under 20 bytes, whatever the mark is, and then another mark, in each of its bytes
  pub refusal2 :
      Lines
      (on_sheet [] "refused 2 length 0\n" ∷
      on_sheet (take 19 schnorr_sheet) "refused 2 length 19\n" ∷
      on_sheet (changed (take 19 schnorr_sheet) 0 0x49) "refused 2 length 19\n" ∷
      on_sheet (changed (take 20 schnorr_sheet) 0 0x49) "refused 2 0\n" ∷
      on_sheet (changed schnorr_sheet 1 0x4E) "refused 2 0\n" ∷
      on_sheet (changed schnorr_sheet 2 0x4C) "refused 2 0\n" ∷ [])
  -- the version, by its low byte and its high one
  pub refusal3 :
      Lines
      (on_sheet (changed schnorr_sheet 4 0) "refused 3 3\n" ∷
      on_sheet (changed root_bytes 4 2) "refused 3 3\n" ∷
      on_sheet (changed schnorr_sheet 3 1) "refused 3 3\n" ∷ [])
  -- the kind
  pub refusal4 : Lines (on_sheet (changed schnorr_sheet 5 0) "refused 4 5\n" ∷ on_sheet (changed root_bytes 5 3) "refused 4 5\n" ∷ [])
  -- the modulus
  pub refusal5 :
      Lines
      (on_sheet (changed schnorr_sheet 9 0) "refused 5 6\n" ∷
      on_sheet (changed schnorr_sheet 9 2) "refused 5 6\n" ∷
      on_sheet (changed root_bytes 9 2) "refused 5 6\n" ∷ [])
  -- ℓ
  pub refusal6 :
      Lines
      (on_sheet (changed schnorr_sheet 13 0) "refused 6 10\n" ∷
      on_sheet (changed schnorr_sheet 13 1) "refused 6 10\n" ∷
      on_sheet (changed root_bytes 13 1) "refused 6 10\n" ∷ [])
  -- rows, then columns, and in kind 2 columns that are not the rows; of two wrong counts the rows come first
  pub refusal7 :
      Lines
      (on_sheet (ones_sheet 1 0 1 0) "refused 7 18\n" ∷
      on_sheet (ones_sheet 1 9 1 18) "refused 7 18\n" ∷
      on_sheet (ones_sheet 1 1 0 1) "refused 7 19\n" ∷
      on_sheet (ones_sheet 1 1 9 10) "refused 7 19\n" ∷
      on_sheet (ones_sheet 1 0 9 0) "refused 7 18\n" ∷
      on_sheet (ones_sheet 2 0 0 0) "refused 7 18\n" ∷
      on_sheet (ones_sheet 2 9 9 9) "refused 7 18\n" ∷
      on_sheet (ones_sheet 2 9 1 9) "refused 7 18\n" ∷
      on_sheet (ones_sheet 2 1 0 1) "refused 7 19\n" ∷
      on_sheet (ones_sheet 2 1 9 1) "refused 7 19\n" ∷
      on_sheet (ones_sheet 2 1 2 1) "refused 7 19\n" ∷
      on_sheet (ones_sheet 2 2 1 2) "refused 7 19\n" ∷ [])
  -- K below 2, above 65,536, or with 11, 3, 2 or 5 below it, which divides ℓ; the place is K's, not ℓ's
  pub refusal8 :
      Lines
      (on_sheet (small_sheet 23 11 0 2 13) "refused 8 14\n" ∷
      on_sheet (small_sheet 23 11 1 2 13) "refused 8 14\n" ∷
      on_sheet (many_challenges 1) "refused 8 14\n" ∷
      on_sheet (small_sheet 23 11 12 2 13) "refused 8 14\n" ∷
      on_sheet (small_sheet 31 15 4 1 1) "refused 8 14\n" ∷
      on_sheet (small_sheet 23 22 3 2 13) "refused 8 14\n" ∷
      on_sheet (changed root_bytes 17 6) "refused 8 14\n" ∷ [])
  -- a length that does not fit the header: the fixed fields alone, a byte too few or too many, a word too few or too many
  pub refusal9 :
      Lines
      (on_sheet (take 20 schnorr_sheet) "refused 9 length 20\n" ∷
      on_sheet (take 27 schnorr_sheet) "refused 9 length 27\n" ∷
      on_sheet (schnorr_sheet ++ 0 ∷ []) "refused 9 length 29\n" ∷
      on_sheet (take 23 root_bytes) "refused 9 length 23\n" ∷
      on_sheet (ones_sheet 2 1 1 2) "refused 9 length 28\n" ∷
      on_sheet (ones_sheet 1 2 3 7) "refused 9 length 48\n" ∷
      on_sheet (ones_sheet 1 2 3 9) "refused 9 length 56\n" ∷
      on_sheet (ones_sheet 1 8 8 73) "refused 9 length 312\n" ∷ [])
  -- an entry: 0, of another order, m, above m, and above m by its high byte; each of two by three, the first of two, and the last of 64
  pub refusal10 :
      Lines
      (on_sheet (changed schnorr_sheet 23 0) "refused 10 20\n" ∷
      on_sheet (changed schnorr_sheet 23 5) "refused 10 20\n" ∷
      on_sheet (changed schnorr_sheet 23 23) "refused 10 20\n" ∷
      on_sheet (changed schnorr_sheet 23 25) "refused 10 20\n" ∷
      on_sheet (changed schnorr_sheet 20 1) "refused 10 20\n" ∷
      on_sheet (changed (ones_sheet 1 2 3 8) 23 5) "refused 10 20\n" ∷
      on_sheet (changed (ones_sheet 1 2 3 8) 27 5) "refused 10 24\n" ∷
      on_sheet (changed (ones_sheet 1 2 3 8) 31 5) "refused 10 28\n" ∷
      on_sheet (changed (ones_sheet 1 2 3 8) 35 5) "refused 10 32\n" ∷
      on_sheet (changed (ones_sheet 1 2 3 8) 39 5) "refused 10 36\n" ∷
      on_sheet (changed (ones_sheet 1 2 3 8) 43 5) "refused 10 40\n" ∷
      on_sheet (changed (changed (ones_sheet 1 2 3 8) 31 5) 39 5) "refused 10 28\n" ∷
      on_sheet (changed (ones_sheet 1 8 8 72) 275 5) "refused 10 272\n" ∷ [])
  -- a statement value, after the entries in kind 1 and after the fixed fields in kind 2; each of two, the first of two, and the last of
  -- eight
  pub refusal11 :
      Lines
      (on_sheet (changed schnorr_sheet 27 0) "refused 11 24\n" ∷
      on_sheet (changed schnorr_sheet 27 5) "refused 11 24\n" ∷
      on_sheet (changed schnorr_sheet 27 23) "refused 11 24\n" ∷
      on_sheet (changed schnorr_sheet 27 36) "refused 11 24\n" ∷
      on_sheet (changed (ones_sheet 1 2 3 8) 47 5) "refused 11 44\n" ∷
      on_sheet (changed (ones_sheet 1 2 3 8) 51 5) "refused 11 48\n" ∷
      on_sheet (changed (changed (ones_sheet 1 2 3 8) 47 5) 51 5) "refused 11 44\n" ∷
      on_sheet (changed (ones_sheet 1 8 8 72) 307 5) "refused 11 304\n" ∷
      on_sheet (changed root_bytes 23 0) "refused 11 20\n" ∷
      on_sheet (changed root_bytes 23 30) "refused 11 20\n" ∷
      on_sheet (changed root_bytes 23 35) "refused 11 20\n" ∷
      on_sheet (changed two_roots 23 14) "refused 11 20\n" ∷
      on_sheet (changed two_roots 27 14) "refused 11 24\n" ∷
      on_sheet (changed (changed two_roots 23 14) 27 14) "refused 11 20\n" ∷
      on_sheet (changed (ones_sheet 2 8 8 8) 51 0) "refused 11 48\n" ∷ [])
  -- under 7 bytes, whatever else is wrong; then another mark, in each of its bytes; then the version, by both bytes
  pub start12 :
      Lines
      (on_file [] "refused 12 length 0\n" ∷
      on_file (take 6 example_file) "refused 12 length 6\n" ∷
      on_file (changed (take 6 example_file) 0 0x53) "refused 12 length 6\n" ∷
      on_file (changed (take 6 example_file) 4 3) "refused 12 length 6\n" ∷
      on_file (changed no_bytes 0 0x53) "refused 12 0\n" ∷
      on_file (changed example_file 1 0x4F) "refused 12 0\n" ∷
      on_file (changed narrow_file 2 0x45) "refused 12 0\n" ∷
      on_file (changed example_file 4 0) "refused 12 3\n" ∷
      on_file (changed example_file 4 3) "refused 12 3\n" ∷
      on_file (changed example_file 3 1) "refused 12 3\n" ∷
      on_file (changed narrow_file 3 1) "refused 12 3\n" ∷
      on_file (changed (changed example_file 0 0x53) 4 3) "refused 12 0\n" ∷ [])
  -- then a count above 512, in either version and whether or not the length fits; and last a length that does not fit
  pub rest12 :
      Lines
      (on_file (zeros_file 2 1 6156) "refused 12 5\n" ∷
      on_file (zeros_file 2 1 0) "refused 12 5\n" ∷
      on_file (zeros_file 255 255 0) "refused 12 5\n" ∷
      on_file (changed (zeros_file 2 1 0) 4 2) "refused 12 5\n" ∷
      on_file (changed (zeros_file 2 1 0) 4 3) "refused 12 3\n" ∷
      on_file (changed (zeros_file 2 1 0) 0 0x53) "refused 12 0\n" ∷
      on_file (zeros_file 2 0 0) "refused 12 length 7\n" ∷
      on_file (zeros_file 0 0 1) "refused 12 length 8\n" ∷
      on_file (take 54 example_file) "refused 12 length 54\n" ∷
      on_file (example_file ++ 0 ∷ []) "refused 12 length 56\n" ∷
      on_file (take 46 narrow_file) "refused 12 length 46\n" ∷
      on_file (narrow_file ++ 0 ∷ []) "refused 12 length 48\n" ∷
      on_file (changed example_file 4 2) "refused 12 length 55\n" ∷
      on_file (changed narrow_file 4 1) "refused 12 length 47\n" ∷
      on pair_bytes (wide (9 ∷ []) 3 (4 ∷ [])) "refused 12 length 19\n" ∷
      on two_columns (narrow (9 ∷ []) 3 (4 ∷ [])) "refused 12 length 17\n" ∷ [])
  -- a count of no rounds
  pub refusal13 :
      Lines (on_file no_bytes "refused 13 5\n" ∷ on_file (changed no_bytes 4 2) "refused 13 5\n" ∷ on root_bytes no_bytes "refused 13 5\n" ∷ [])
  -- a commitment value: 0, of another order, m, above m, and above m by its high byte; each of two, the first of two, the last of eight
  pub refusal14 :
      Lines
      (on_file (wide (0 ∷ []) 3 (4 ∷ [])) "refused 14 7\n" ∷
      on_file (wide (5 ∷ []) 3 (4 ∷ [])) "refused 14 7\n" ∷
      on_file (wide (23 ∷ []) 3 (4 ∷ [])) "refused 14 7\n" ∷
      on_file (wide (32 ∷ []) 3 (4 ∷ [])) "refused 14 7\n" ∷
      on_file (changed (wide (9 ∷ []) 3 (4 ∷ [])) 7 1) "refused 14 7\n" ∷
      on_file (narrow (5 ∷ []) 3 (4 ∷ [])) "refused 14 7\n" ∷
      on pair_bytes (wide (5 ∷ 6 ∷ []) 3 (4 ∷ [])) "refused 14 7\n" ∷
      on pair_bytes (wide (9 ∷ 5 ∷ []) 3 (4 ∷ [])) "refused 14 11\n" ∷
      on pair_bytes (wide (5 ∷ 5 ∷ []) 3 (4 ∷ [])) "refused 14 7\n" ∷
      on pair_bytes (narrow (9 ∷ 5 ∷ []) 3 (4 ∷ [])) "refused 14 11\n" ∷
      on eight_rows (wide (replicate 7 9 ++ 5 ∷ []) 3 (4 ∷ [])) "refused 14 35\n" ∷
      on root_bytes (wide (0 ∷ []) 1 (6 ∷ [])) "refused 14 7\n" ∷
      on root_bytes (wide (35 ∷ []) 1 (6 ∷ [])) "refused 14 7\n" ∷
      on root_bytes (narrow (14 ∷ []) 1 (6 ∷ [])) "refused 14 7\n" ∷
      on two_roots (wide (33 ∷ 14 ∷ []) 1 (6 ∷ 6 ∷ [])) "refused 14 11\n" ∷ [])
  -- the challenge, after the commitment: K, above K by its high byte, on one, two and eight rows
  pub refusal15 :
      Lines
      (on_file (wide (9 ∷ []) 11 (4 ∷ [])) "refused 15 11\n" ∷
      on_file (changed (wide (9 ∷ []) 3 (4 ∷ [])) 11 1) "refused 15 11\n" ∷
      on_file (narrow (9 ∷ []) 11 (4 ∷ [])) "refused 15 11\n" ∷
      on_file (changed (narrow (9 ∷ []) 3 (4 ∷ [])) 11 1) "refused 15 11\n" ∷
      on two_columns (wide (9 ∷ []) 11 (4 ∷ 4 ∷ [])) "refused 15 11\n" ∷
      on pair_bytes (wide (9 ∷ 6 ∷ []) 11 (4 ∷ [])) "refused 15 15\n" ∷
      on pair_bytes (narrow (9 ∷ 6 ∷ []) 11 (4 ∷ [])) "refused 15 15\n" ∷
      on eight_rows (wide (replicate 8 9) 11 (4 ∷ [])) "refused 15 39\n" ∷
      on root_bytes (wide (33 ∷ []) 5 (6 ∷ [])) "refused 15 11\n" ∷
      on two_roots (narrow (33 ∷ 32 ∷ []) 5 (6 ∷ 6 ∷ [])) "refused 15 15\n" ∷ [])
  -- a response slot, after a challenge of four bytes or of two: each of two, the first of two, and the last of eight
  pub refusal16 :
      Lines
      (on_file (wide (9 ∷ []) 3 (11 ∷ [])) "refused 16 15\n" ∷
      on_file (changed (wide (9 ∷ []) 3 (4 ∷ [])) 15 1) "refused 16 15\n" ∷
      on_file (narrow (9 ∷ []) 3 (11 ∷ [])) "refused 16 13\n" ∷
      on pair_bytes (wide (9 ∷ 6 ∷ []) 3 (11 ∷ [])) "refused 16 19\n" ∷
      on pair_bytes (narrow (9 ∷ 6 ∷ []) 3 (11 ∷ [])) "refused 16 17\n" ∷
      on two_columns (wide (9 ∷ []) 3 (11 ∷ 4 ∷ [])) "refused 16 15\n" ∷
      on two_columns (wide (9 ∷ []) 3 (4 ∷ 11 ∷ [])) "refused 16 19\n" ∷
      on two_columns (wide (9 ∷ []) 3 (11 ∷ 11 ∷ [])) "refused 16 15\n" ∷
      on two_columns (narrow (9 ∷ []) 3 (11 ∷ 4 ∷ [])) "refused 16 13\n" ∷
      on two_columns (narrow (9 ∷ []) 3 (4 ∷ 11 ∷ [])) "refused 16 17\n" ∷
      on (ones_sheet 1 8 8 72) (wide (replicate 8 1) 3 (replicate 7 4 ++ 11 ∷ [])) "refused 16 71\n" ∷
      on (ones_sheet 1 8 8 72) (narrow (replicate 8 1) 3 (replicate 7 4 ++ 11 ∷ [])) "refused 16 69\n" ∷
      on root_bytes (wide (33 ∷ []) 1 (0 ∷ [])) "refused 16 15\n" ∷
      on root_bytes (wide (33 ∷ []) 1 (35 ∷ [])) "refused 16 15\n" ∷
      on root_bytes (narrow (33 ∷ []) 1 (14 ∷ [])) "refused 16 13\n" ∷
      on two_roots (wide (33 ∷ 32 ∷ []) 1 (6 ∷ 14 ∷ [])) "refused 16 23\n" ∷
      on two_roots (narrow (33 ∷ 32 ∷ []) 1 (6 ∷ 14 ∷ [])) "refused 16 21\n" ∷ [])
  -- of two rules that are broken the lower is told, though the other's value stands before it
  pub lower :
      Lines
      (on_sheet (changed (changed schnorr_sheet 0 0x49) 4 2) "refused 2 0\n" ∷
      on_sheet (changed (changed schnorr_sheet 4 2) 5 3) "refused 3 3\n" ∷
      on_sheet (changed (changed schnorr_sheet 5 3) 9 2) "refused 4 5\n" ∷
      on_sheet (changed (changed schnorr_sheet 9 2) 13 1) "refused 5 6\n" ∷
      on_sheet (changed (changed schnorr_sheet 13 1) 18 9) "refused 6 10\n" ∷
      on_sheet (changed (changed schnorr_sheet 17 12) 18 9) "refused 7 18\n" ∷
      on_sheet (changed (changed root_bytes 17 6) 19 2) "refused 7 19\n" ∷
      on_sheet (take 27 (changed schnorr_sheet 17 12)) "refused 8 14\n" ∷
      on_sheet (take 27 (changed schnorr_sheet 23 5)) "refused 9 length 27\n" ∷
      on_sheet (changed (changed schnorr_sheet 23 5) 27 5) "refused 10 20\n" ∷
      on [] [] "refused 2 length 0\n" ∷
      on (changed schnorr_sheet 27 5) [] "refused 11 24\n" ∷
      on (schnorr_sheet ++ 0 ∷ []) (take 54 example_file) "refused 9 length 29\n" ∷
      on_file (take 18 (wide (5 ∷ []) 3 (4 ∷ []))) "refused 12 length 18\n" ∷
      on_file (changed no_bytes 4 3) "refused 12 3\n" ∷
      on_file (wide (5 ∷ []) 11 (11 ∷ [])) "refused 14 7\n" ∷
      on pair_bytes (wide (9 ∷ 5 ∷ []) 3 (11 ∷ [])) "refused 14 11\n" ∷
      on_file (narrow (9 ∷ []) 11 (11 ∷ [])) "refused 15 11\n" ∷ [])
  -- the rows that differ, rising, each with [r] and then t · z^c. Page A: 2^2 is 4 and 9 · 13 is 2. Page E: 2^4 is 16 and 16^4 is 9, 2^5
  -- is 9 and 16^5 is 6, and 6 · 13^3 is 3, 9 · 18^3 is 2. Roots: 2^5 is 32, and 33 · 32 is 6; with m 253 and e 3, 6^3 is 216
  pub rejected :
      Lines
      (on_file (wide (9 ∷ []) 1 (2 ∷ [])) "rejected 0 4 2\n" ∷
      on_file (narrow (9 ∷ []) 1 (2 ∷ [])) "rejected 0 4 2\n" ∷
      on_file (changed example_file 18 5) "rejected 0 9 16\n" ∷
      on pair_bytes (wide (6 ∷ 6 ∷ []) 3 (4 ∷ [])) "rejected 0 16 3\n" ∷
      on pair_bytes (narrow (9 ∷ 9 ∷ []) 3 (4 ∷ [])) "rejected 1 9 2\n" ∷
      on pair_bytes (wide (9 ∷ 6 ∷ []) 3 (5 ∷ [])) "rejected 0 9 16 1 6 9\n" ∷
      on eight_rows (wide (9 ∷ 1 ∷ 9 ∷ 9 ∷ 1 ∷ 9 ∷ 9 ∷ 1 ∷ []) 3 (4 ∷ [])) "rejected 1 16 12 4 16 12 7 16 12\n" ∷
      on eight_rows (narrow (replicate 8 1) 3 (4 ∷ []))
      "rejected 0 16 12 1 16 12 2 16 12 3 16 12 4 16 12 5 16 12 6 16 12 7 16 12\n" ∷
      on root_bytes (wide (33 ∷ []) 1 (2 ∷ [])) "rejected 0 32 6\n" ∷
      on two_roots (wide (33 ∷ 32 ∷ []) 1 (2 ∷ 6 ∷ [])) "rejected 0 32 6\n" ∷
      on two_roots (narrow (33 ∷ 32 ∷ []) 1 (6 ∷ 2 ∷ [])) "rejected 1 32 6\n" ∷
      on (sheet_bytes 2 253 3 2 1 1 (8 ∷ [])) (wide (1 ∷ []) 1 (6 ∷ [])) "rejected 0 216 8\n" ∷ [])
  -- round 0 alone is told of: the marker's example has a rejected round and a refused one after it
  pub accepted :
      Lines
      (on_file example_file "accepted\n" ∷
      on_file narrow_file "accepted\n" ∷
      on pair_bytes (wide (9 ∷ 6 ∷ []) 3 (4 ∷ [])) "accepted\n" ∷
      on two_columns (wide (1 ∷ []) 1 (1 ∷ 2 ∷ [])) "accepted\n" ∷
      on root_bytes (wide (33 ∷ []) 1 (6 ∷ [])) "accepted\n" ∷
      on two_roots (narrow (33 ∷ 32 ∷ []) 1 (6 ∷ 6 ∷ [])) "accepted\n" ∷ [])
