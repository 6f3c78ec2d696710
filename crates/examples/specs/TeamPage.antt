-- Worked teams (02, card 6): pages A, E and G with the witness and the nonce split over players, the combiner's answers and the whole's
-- verdict, and its refusals at their bounds.
-- Assumes nothing.
use Rattle.std.specs.Prelude.{ℕ, ◌≡◌, List, [], ◌∷◌, ◌++◌, map, get_or, length, replicate, take}
use Rattle.types.specs.declared.Computed.{Computed}
use Rattle.types.specs.declared.Round.{Round}
use Rattle.lists.specs.Places.{places, tabulate}
use Rattle.formats.specs.Sheet.{header_of}
use Rattle.runs.specs.Calls.{judge_round}
use Rattle.runs.specs.Ours.{honest_round}
use Rattle.sigma.specs.Answer.{outcome}
use Rattle.sigma.specs.Reads.{round_of}
use Rattle.products.specs.Players.{player_sheet}
use Rattle.products.specs.Team.{join_responses, multiply_commitments}
use Rattle.examples.specs.Corners.{Corner, changed, root_bytes}
use Rattle.examples.specs.Pages.{array}
use Rattle.examples.specs.Sheets.{schnorr_sheet, sheet_bytes}

-- page E's sheet, byte by byte: m 23, q 11, K 11, entries 2 and 16, z (13, 18)
unfoldable pub pair_bytes : List ℕ
pair_bytes = sheet_bytes 1 23 11 11 2 1 (2 ∷ 16 ∷ 13 ∷ 18 ∷ [])

-- what the players bring, in eight rows of eight; rows beyond the players' hold 99, which no call may read
unfoldable pub brought : List (List ℕ) → List (List ℕ)
brought values = take 8 (map array values ++ replicate 8 (replicate 8 99))

-- a value for each player, on a sheet of one row and one column
unfoldable pub each : List ℕ → List (List ℕ)
each values = brought (map (λ v. v ∷ []) values)

-- what both calls answer to a team's commitments and responses with the challenge c, with their numbers, and the verdict on it
unfoldable pub combining : List ℕ → ℕ → List (List ℕ) → List (List ℕ) → ℕ → List (List ℕ) → List ℕ
combining sheet count images ts c rs =
    let t : Computed = multiply_commitments sheet count images ts in
    let r : Computed = join_responses sheet count images rs in
    t.refusal ∷ places (header_of sheet).rows t.values ++ r.refusal ∷ places (header_of sheet).columns r.values ++
    (outcome (judge_round sheet (round_of t.values c r.values))).values

-- the same for the honest rounds that the players make on their own sheets with the parts xs and the nonces ks
unfoldable pub team_run : List ℕ → List (List ℕ) → List (List ℕ) → ℕ → List (List ℕ) → List ℕ
team_run sheet images xs c ks =
    let round : ℕ → Round =
    λ p. honest_round (player_sheet sheet (brought images) p) (get_or (map array xs) p []) c (get_or (map array ks) p []) in
    combining sheet (length images) (brought images)
    (brought (tabulate (length images) (λ p. places (header_of sheet).rows (round p).commitment))) c
    (brought (tabulate (length images) (λ p. places (header_of sheet).columns (round p).response)))

-- the numbers of both calls for a team of so many on a sheet of one row and one column, with these images, commitments and responses
unfoldable pub team_numbers : List ℕ → ℕ → List ℕ → List ℕ → List ℕ → List ℕ
team_numbers sheet count images ts rs =
    (multiply_commitments sheet count (each images) (each ts)).refusal ∷ (join_responses sheet count (each images) (each rs)).refusal ∷ []

-- those of the first call alone, and of the second
unfoldable pub multiplying : ℕ → List ℕ → List ℕ → ℕ
multiplying count images ts = (multiply_commitments schnorr_sheet count (each images) (each ts)).refusal

unfoldable pub joining : ℕ → List ℕ → List ℕ → ℕ
joining count images rs = (join_responses schnorr_sheet count (each images) (each rs)).refusal

-- the number of the first call for two players with these images on page E's sheet, of two rows
unfoldable pub two_rows : List ℕ → List ℕ → ℕ
two_rows image image' =
    (multiply_commitments pair_bytes 2 (brought (image ∷ image' ∷ [])) (brought ((1 ∷ 1 ∷ []) ∷ (1 ∷ 1 ∷ []) ∷ []))).refusal

-- the worked numbers
pub record TeamPage : Type 0 where
  -- page A: 7 is 3 + 4, with the images 8 and 16, and the nonce 5 is 2 + 3; t 4 · 8 = 9, r 0 + 4
  pub A : team_run schnorr_sheet ((8 ∷ []) ∷ (16 ∷ []) ∷ []) ((3 ∷ []) ∷ (4 ∷ []) ∷ []) 3 ((2 ∷ []) ∷ (3 ∷ []) ∷ [])
      ≡ 0 ∷ 9 ∷ 0 ∷ 4 ∷ 1 ∷ []
  -- page E: the same parts, with two rows
  pub E : team_run pair_bytes ((8 ∷ 2 ∷ []) ∷ (16 ∷ 9 ∷ []) ∷ []) ((3 ∷ []) ∷ (4 ∷ []) ∷ []) 3 ((2 ∷ []) ∷ (3 ∷ []) ∷ [])
      ≡ 0 ∷ 9 ∷ 6 ∷ 0 ∷ 4 ∷ 1 ∷ []
  -- page G: 2 is 3 · 24, with the images 33 and 19, and the nonce 3 is 2 · 19
  pub G : team_run root_bytes ((33 ∷ []) ∷ (19 ∷ []) ∷ []) ((3 ∷ []) ∷ (24 ∷ []) ∷ []) 1 ((2 ∷ []) ∷ (19 ∷ []) ∷ [])
      ≡ 0 ∷ 33 ∷ 0 ∷ 6 ∷ 1 ∷ []
  -- page A with eight players, who are honest, and with one of them answering 1 too much
  pub eight : combining schnorr_sheet 8 (each (2 ∷ 2 ∷ 2 ∷ 2 ∷ 2 ∷ 2 ∷ 2 ∷ 1 ∷ [])) (each (9 ∷ 1 ∷ 1 ∷ 1 ∷ 1 ∷ 1 ∷ 1 ∷ 1 ∷ [])) 3
      (each (8 ∷ 3 ∷ 3 ∷ 3 ∷ 3 ∷ 3 ∷ 3 ∷ 0 ∷ []))
      ≡ 0 ∷ 9 ∷ 0 ∷ 4 ∷ 1 ∷ []
  pub wrong : combining schnorr_sheet 8 (each (2 ∷ 2 ∷ 2 ∷ 2 ∷ 2 ∷ 2 ∷ 2 ∷ 1 ∷ [])) (each (9 ∷ 1 ∷ 1 ∷ 1 ∷ 1 ∷ 1 ∷ 1 ∷ 1 ∷ [])) 3
      (each (8 ∷ 3 ∷ 3 ∷ 4 ∷ 3 ∷ 3 ∷ 3 ∷ 0 ∷ []))
      ≡ 0 ∷ 9 ∷ 0 ∷ 5 ∷ 0 ∷ 0 ∷ []
  -- 27 stands behind 2 to 9 of the sheet and before a bad entry, a bad statement or image and all else
  pub refusal27 :
      Corner 27
      (team_numbers schnorr_sheet 2 (8 ∷ 16 ∷ []) (9 ∷ 1 ∷ []) (4 ∷ 0 ∷ []) ++
      team_numbers schnorr_sheet 8 (13 ∷ 1 ∷ 1 ∷ 1 ∷ 1 ∷ 1 ∷ 1 ∷ 1 ∷ []) (replicate 8 9) (replicate 8 4))
      (team_numbers schnorr_sheet 0 [] [] [] ++ team_numbers schnorr_sheet 1 (13 ∷ []) (9 ∷ []) (4 ∷ []) ++
      team_numbers schnorr_sheet 9 (13 ∷ 1 ∷ 1 ∷ 1 ∷ 1 ∷ 1 ∷ 1 ∷ 1 ∷ []) (replicate 8 9) (replicate 8 4) ++
      team_numbers (changed schnorr_sheet 23 5) 1 (13 ∷ []) (9 ∷ []) (4 ∷ []) ++
      team_numbers (changed schnorr_sheet 27 5) 1 (5 ∷ []) (5 ∷ []) (11 ∷ []))
  pub refusal9 : Corner 9 [] (team_numbers (schnorr_sheet ++ 0 ∷ []) 1 (13 ∷ []) (9 ∷ []) (4 ∷ []))
  pub refusal10 : Corner 10 [] (team_numbers (changed schnorr_sheet 23 5) 2 (5 ∷ 5 ∷ []) (5 ∷ 5 ∷ []) (11 ∷ 11 ∷ []))
  pub refusal11 :
      Corner 11 [] (team_numbers (changed schnorr_sheet 27 5) 2 (8 ∷ 16 ∷ []) (9 ∷ 1 ∷ []) (4 ∷ 0 ∷ []) ++
      team_numbers schnorr_sheet 2 (5 ∷ 16 ∷ []) (5 ∷ 1 ∷ []) (11 ∷ 0 ∷ []) ++
      team_numbers schnorr_sheet 2 (13 ∷ 24 ∷ []) (9 ∷ 1 ∷ []) (4 ∷ 0 ∷ []) ++
      team_numbers schnorr_sheet 3 (8 ∷ 16 ∷ 0 ∷ []) (9 ∷ 1 ∷ 1 ∷ []) (4 ∷ 0 ∷ 0 ∷ []))
  -- the calls' own, before 28
  pub refusal14 :
      Corner 14 (multiplying 2 (8 ∷ 16 ∷ []) (18 ∷ 1 ∷ []) ∷ [])
      (multiplying 2 (8 ∷ 16 ∷ []) (5 ∷ 1 ∷ []) ∷ multiplying 2 (8 ∷ 8 ∷ []) (9 ∷ 5 ∷ []) ∷ [])
  pub refusal16 :
      Corner 16 (joining 2 (8 ∷ 16 ∷ []) (10 ∷ 10 ∷ []) ∷ []) (joining 2 (8 ∷ 16 ∷ []) (11 ∷ 0 ∷ []) ∷ joining 2 (8 ∷ 8 ∷ []) (0 ∷ 11 ∷ []) ∷ [])
  -- the images multiply to another value, in one of two rows, or with one image too many or too few
  pub refusal28 :
      Corner 28 (two_rows (8 ∷ 2 ∷ []) (16 ∷ 9 ∷ []) ∷ [])
      (multiplying 2 (8 ∷ 8 ∷ []) (9 ∷ 1 ∷ []) ∷ joining 2 (8 ∷ 8 ∷ []) (4 ∷ 0 ∷ []) ∷ multiplying 3 (8 ∷ 16 ∷ 2 ∷ []) (9 ∷ 1 ∷ 1 ∷ []) ∷
      multiplying 2 (8 ∷ 8 ∷ 2 ∷ []) (9 ∷ 1 ∷ 1 ∷ []) ∷ two_rows (8 ∷ 2 ∷ []) (16 ∷ 1 ∷ []) ∷ two_rows (8 ∷ 2 ∷ []) (8 ∷ 9 ∷ []) ∷ [])
