-- Worked games (02, card 12): the whole text on page A's sheet, page D's, page G's, on page E's table, on sheets whose image has a kernel,
-- on statements without a witness, and where something is refused.
-- Assumes nothing.
use Rattle.std.specs.Prelude.{ℕ, ◌≡◌, take}
use mathlib.Core.List.{List, [], ◌∷◌, ◌++◌, flatten, map}
use Rattle.encoding.specs.Text.{ascii}
use Rattle.games.specs.Text.{game_text}
use Rattle.examples.specs.Corners.{root_bytes}
use Rattle.examples.specs.MarkerExample.{example_file, narrow_file}
use Rattle.examples.specs.Pages.{repeated}
use Rattle.examples.specs.Sheets.{four_bytes, schnorr_sheet, sheet_bytes, small_sheet}

-- the text on a sheet of one row and one column and a file of the one round (t, 0, 0)
unfoldable pub play_on : List ℕ → ℕ → List ℕ
play_on sheet t = game_text sheet (repeated 1 t 0 0)

-- page D's sheet, byte by byte: generators 2 and 3, z 18
unfoldable pub okamoto_bytes : List ℕ
okamoto_bytes = sheet_bytes 1 23 11 11 1 2 (2 ∷ 3 ∷ 18 ∷ [])

-- a round file of one round of these words
unfoldable pub one_round : List ℕ → List ℕ
one_round words = 0x52 ∷ 0x4E ∷ 0x44 ∷ 0 ∷ 1 ∷ 0 ∷ 1 ∷ [] ++ flatten (map four_bytes words)

pub record GamePage : Type 0 where
  -- page A's sheet with the marker's example, in both versions; the example's third and fourth round play no part
  pub A : game_text schnorr_sheet example_file ≡ ascii "0 5\n1 1\n2 8\n3 4\n4 0\n5 7\n6 3\n7 10\n8 6\n9 2\n10 9\n"
  pub A-two : game_text schnorr_sheet narrow_file ≡ ascii "0 5\n1 1\n2 8\n3 4\n4 0\n5 7\n6 3\n7 10\n8 6\n9 2\n10 9\n"
  -- page D with t 1: of the eleven responses to 1 the one with the lowest first slot, (0, 9), and not (6, 0)
  pub D : game_text okamoto_bytes (one_round (1 ∷ 0 ∷ 0 ∷ 0 ∷ []))
      ≡ ascii "0 0 0\n1 0 9\n2 0 7\n3 0 5\n4 0 3\n5 0 1\n6 0 10\n7 0 8\n8 0 6\n9 0 4\n10 0 2\n"
  -- page E's table, 2 and 16, with z (13, 13): row 0 alone would answer every challenge, and both rows agree for r 0 alone
  pub two_rows_law : game_text (sheet_bytes 1 23 11 11 2 1 (2 ∷ 16 ∷ 13 ∷ 13 ∷ [])) (one_round (9 ∷ 9 ∷ 0 ∷ 0 ∷ [])) ≡ ascii "4 0\n"
  -- page G with t 33
  pub G : play_on root_bytes 33 ≡ ascii "0 3\n1 6\n2 12\n3 24\n4 13\n"
  -- m 31, q 15, K 3, entry 1, z 2 has no witness: t 1 answers 0, t 16 answers 1, and t 2 none
  pub first_answered : play_on (small_sheet 31 15 3 1 2) 1 ≡ ascii "0 0\n"
  pub second_answered : play_on (small_sheet 31 15 3 1 2) 16 ≡ ascii "1 0\n"
  pub none_answered : play_on (small_sheet 31 15 3 1 2) 2 ≡ ascii "none\n"
  -- entry 2 has the order 5 for q 15, and z 4 a witness: t 1 answers all, and 5, a group element that is no image, none
  pub kernel : play_on (small_sheet 31 15 3 2 4) 1 ≡ ascii "0 0\n1 2\n2 4\n"
  pub no_image : play_on (small_sheet 31 15 3 2 4) 5 ≡ ascii "none\n"
  -- m 7, e 3: 1 and 6 have three roots each, and no other number has one; z 6 has a root, and z 2 none
  pub roots : play_on (sheet_bytes 2 7 3 3 1 1 (6 ∷ [])) 1 ≡ ascii "0 1\n1 3\n2 1\n"
  pub none_rooted : play_on (sheet_bytes 2 7 3 3 1 1 (6 ∷ [])) 2 ≡ ascii "none\n"
  pub no_root : play_on (sheet_bytes 2 7 3 3 1 1 (2 ∷ [])) 3 ≡ ascii "1 3\n"
  -- what is refused: no sheet, no file, no round, a t that is no group element, and a sheet of kind 2 with two rows
  pub no_sheet : game_text [] example_file ≡ ascii "refused 2\n"
  pub no_file : game_text schnorr_sheet [] ≡ ascii "refused 12\n"
  pub no_rounds_law : game_text schnorr_sheet (take 5 example_file ++ 0 ∷ 0 ∷ []) ≡ ascii "refused 13\n"
  pub no_element : play_on schnorr_sheet 5 ≡ ascii "refused 14\n"
  pub large : game_text (sheet_bytes 2 7 3 3 2 2 (6 ∷ 6 ∷ [])) (one_round (1 ∷ 1 ∷ 0 ∷ 1 ∷ 1 ∷ [])) ≡ ascii "refused 31\n"
