-- 31 of the game (02, card 12) by each part of its condition, at its bounds for each number of slots; the order of its neighbours; and
-- what is not tested.
-- Assumes nothing.
use Rattle.std.specs.Prelude.{ℕ, ◌+◌, ◌*◌, ◌/◌, ◌%◌, ◌≡◌, replicate}
use mathlib.Core.List.{List, [], ◌∷◌, ◌++◌, flatten}
use Rattle.std.proofs.lemmas.List.Edits.{sets}
use Rattle.games.specs.Text.{game_refusal}
use Rattle.examples.specs.Corners.{Corner, changed}
use Rattle.examples.specs.GamePage.{one_round}
use Rattle.examples.specs.Sheets.{four_bytes, schnorr_sheet}

-- a number below 65,536 in four bytes
unfoldable pub wide_bytes : ℕ → List ℕ
wide_bytes v = 0 ∷ 0 ∷ v / 256 ∷ v % 256 ∷ []

-- a sheet with K 2 that goes on with so many words, all 1
unfoldable pub ones_game : ℕ → ℕ → ℕ → ℕ → ℕ → ℕ → List ℕ
ones_game kind modulus order rows columns words =
    0x48 ∷ 0x4F ∷ 0x4D ∷ 0 ∷ 1 ∷ kind ∷ [] ++ wide_bytes modulus ++ wide_bytes order ++ four_bytes 2 ++ rows ∷ columns ∷ [] ++
    flatten (replicate words (four_bytes 1))

-- of kind 1 and of kind 2
unfoldable pub choices_game : ℕ → ℕ → ℕ → ℕ → List ℕ
choices_game modulus order rows columns = ones_game 1 modulus order rows columns (rows * columns + rows)

unfoldable pub roots_game : ℕ → ℕ → ℕ → List ℕ
roots_game modulus order rows = ones_game 2 modulus order rows rows rows

-- a file of one round, with t 1 in so many rows, c, and r in so many slots
unfoldable pub ones_file : ℕ → ℕ → ℕ → ℕ → List ℕ
ones_file rows columns c r = one_round (replicate rows 1 ++ c ∷ replicate columns r)

-- the number for m 3, so many rows and n slots of numbers below q
unfoldable pub slots_in : ℕ → ℕ → ℕ → ℕ
slots_in rows q n = game_refusal (choices_game 3 q rows n) (ones_file rows n 0 0)

-- the number for roots modulo m in so many rows
unfoldable pub roots_in : ℕ → ℕ → ℕ → ℕ
roots_in m e rows = game_refusal (roots_game m e rows) (ones_file rows rows 0 1)

pub record GameCorners : Type 0 where
  -- kind 1: q^n is 4,096 or the power below it, and the power above it, for n from 1 to 8; last 2^32 − 1 in eight slots
  pub choices31 :
      Corner 31
      (slots_in 1 4096 1 ∷ slots_in 1 64 2 ∷ slots_in 1 16 3 ∷ slots_in 1 8 4 ∷ slots_in 1 5 5 ∷ slots_in 1 4 6 ∷ slots_in 1 3 7 ∷ slots_in 1 2 8 ∷
      slots_in 8 64 2 ∷ [])
      (slots_in 1 4097 1 ∷ slots_in 1 65 2 ∷ slots_in 1 17 3 ∷ slots_in 1 9 4 ∷ slots_in 1 6 5 ∷ slots_in 1 5 6 ∷ slots_in 1 4 7 ∷ slots_in 1 3 8 ∷
      slots_in 8 65 2 ∷
      game_refusal (sets (choices_game 3 2 1 8) 10 (255 ∷ 255 ∷ 255 ∷ 255 ∷ [])) (ones_file 1 8 0 0) ∷ [])
  -- kind 2: m alone, and s alone
  pub modulus31 : Corner 31 (roots_in 4096 3 1 ∷ roots_in 4095 3 1 ∷ []) (roots_in 4097 3 1 ∷ roots_in 65535 3 1 ∷ [])
  pub rows31 : Corner 31 (roots_in 7 3 1 ∷ []) (roots_in 7 3 2 ∷ roots_in 7 3 8 ∷ roots_in 4097 3 2 ∷ [])
  -- what is asked in the other kind alone: m and s in kind 1, and q^n in kind 2
  pub other31 : Corner 31 (game_refusal (choices_game 65535 2 2 1) (ones_file 2 1 0 0) ∷ roots_in 7 65535 1 ∷ []) []
  -- the order: a sheet's last number, the file's, 13, 14 and 31, each with all that come after it
  pub order :
      game_refusal (changed (choices_game 3 4097 1 1) 27 0) [] ∷
      game_refusal (choices_game 3 4097 1 1) (changed (changed (ones_file 1 1 0 0) 6 0) 0 0) ∷
      game_refusal (choices_game 3 4097 1 1) (0x52 ∷ 0x4E ∷ 0x44 ∷ 0 ∷ 1 ∷ 0 ∷ 0 ∷ []) ∷
      game_refusal (choices_game 3 4097 1 1) (changed (ones_file 1 1 9 9) 10 0) ∷
      game_refusal (choices_game 3 4097 1 1) (ones_file 1 1 9 9) ∷ []
      ≡ 11 ∷ 12 ∷ 13 ∷ 14 ∷ 31 ∷ []
  -- 14 for each row of t
  pub rows14 :
      Corner 14 (game_refusal (choices_game 3 2 2 1) (one_round (2 ∷ 2 ∷ 0 ∷ 0 ∷ [])) ∷ [])
      (game_refusal (choices_game 3 2 2 1) (one_round (0 ∷ 1 ∷ 0 ∷ 0 ∷ [])) ∷
      game_refusal (choices_game 3 2 2 1) (one_round (1 ∷ 3 ∷ 0 ∷ 0 ∷ [])) ∷ [])
  -- c and r of round 0 are not tested
  pub untested :
      game_refusal schnorr_sheet (one_round (9 ∷ 11 ∷ 11 ∷ [])) ∷ game_refusal schnorr_sheet (one_round (9 ∷ 255 ∷ 255 ∷ [])) ∷
      game_refusal (roots_game 7 3 1) (one_round (1 ∷ 2 ∷ 0 ∷ [])) ∷ []
      ≡ 0 ∷ 0 ∷ 0 ∷ []
