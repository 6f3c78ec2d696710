-- The combiner's refusals (02, card 6) by each part of their conditions: a row for each of eight players, each row and each slot.
-- Assumes nothing.
use Rattle.std.specs.Prelude.{ℕ}
use mathlib.Core.List.{List, [], ◌∷◌, ◌++◌, flatten, map}
use Rattle.products.specs.Team.{join_responses, multiply_commitments}
use Rattle.examples.specs.Corners.{Corner}
use Rattle.examples.specs.Sheets.{schnorr_sheet}
use Rattle.examples.specs.TeamPage.{brought, joining, multiplying, team_numbers}
use Rattle.examples.specs.TwoRows.{raised, reworded, spoilt, table}

-- ---- eight players on page A's sheet

-- their images, commitments and responses to 3
unfoldable pub images : List ℕ
images = 2 ∷ 2 ∷ 2 ∷ 2 ∷ 2 ∷ 2 ∷ 2 ∷ 1 ∷ []

unfoldable pub commitments : List ℕ
commitments = 9 ∷ 1 ∷ 1 ∷ 1 ∷ 1 ∷ 1 ∷ 1 ∷ 1 ∷ []

unfoldable pub responses : List ℕ
responses = 8 ∷ 3 ∷ 3 ∷ 3 ∷ 3 ∷ 3 ∷ 3 ∷ 0 ∷ []

-- ---- two players on a sheet of two rows and three columns

-- the numbers of both calls, for what each of them brings
unfoldable pub both_players : List ℕ → List ℕ → List ℕ → List ℕ → List ℕ → List ℕ → List ℕ → List ℕ
both_players sheet image image' t t' r r' =
    (multiply_commitments sheet 2 (brought (image ∷ image' ∷ [])) (brought (t ∷ t' ∷ []))).refusal ∷
    (join_responses sheet 2 (brought (image ∷ image' ∷ [])) (brought (r ∷ r' ∷ []))).refusal ∷ []

-- with other images, other commitments and other responses than the honest ones, and on another sheet
unfoldable pub with_images : List ℕ → List ℕ → List ℕ
with_images image image' = both_players table image image' (2 ∷ 16 ∷ []) (13 ∷ 6 ∷ []) (0 ∷ 4 ∷ 4 ∷ []) (4 ∷ 0 ∷ 5 ∷ [])

unfoldable pub with_commitments : List ℕ → List ℕ → ℕ
with_commitments t t' =
    (multiply_commitments table 2 (brought ((4 ∷ 2 ∷ []) ∷ (18 ∷ 3 ∷ []) ∷ [])) (brought (t ∷ t' ∷ []))).refusal

unfoldable pub with_responses : List ℕ → List ℕ → ℕ
with_responses r r' = (join_responses table 2 (brought ((4 ∷ 2 ∷ []) ∷ (18 ∷ 3 ∷ []) ∷ [])) (brought (r ∷ r' ∷ []))).refusal

unfoldable pub on_other : List ℕ → List ℕ
on_other sheet =
    both_players sheet (4 ∷ 2 ∷ []) (18 ∷ 3 ∷ []) (2 ∷ 16 ∷ []) (13 ∷ 6 ∷ []) (0 ∷ 4 ∷ 4 ∷ []) (4 ∷ 0 ∷ 5 ∷ [])

pub record TeamCorners : Type 0 where
  -- each player's image, each row of it: no group element by its order, and by its size; also if another player's commitment or response
  -- is wrong
  pub refusal11 :
      Corner 11 (team_numbers schnorr_sheet 8 images commitments responses ++ on_other table)
      (flatten (map (λ bad. team_numbers schnorr_sheet 8 bad commitments responses) (spoilt images 5 ++ raised images 23)) ++
      flatten (map (λ bad. with_images bad (18 ∷ 3 ∷ [])) (spoilt (4 ∷ 2 ∷ []) 5)) ++
      flatten (map (λ bad. with_images (4 ∷ 2 ∷ []) bad) (spoilt (18 ∷ 3 ∷ []) 5)) ++
      flatten (map on_other (reworded table 5 (44 ∷ 48 ∷ []))) ++
      team_numbers schnorr_sheet 2 (8 ∷ 5 ∷ []) (5 ∷ 1 ∷ []) (11 ∷ 0 ∷ []) ++
      team_numbers schnorr_sheet 2 (5 ∷ 16 ∷ []) (9 ∷ 5 ∷ []) (4 ∷ 11 ∷ []))
  -- each entry of the sheet
  pub refusal10 : Corner 10 [] (flatten (map on_other (reworded table 5 (20 ∷ 24 ∷ 28 ∷ 32 ∷ 36 ∷ 40 ∷ []))))
  -- each player's commitment, each row of it
  pub refusal14 :
      Corner 14 (with_commitments (2 ∷ 16 ∷ []) (13 ∷ 6 ∷ []) ∷ [])
      (map (multiplying 8 images) (spoilt commitments 5) ++
      map (λ bad. with_commitments bad (13 ∷ 6 ∷ [])) (spoilt (2 ∷ 16 ∷ []) 5) ++
      map (with_commitments (2 ∷ 16 ∷ [])) (spoilt (13 ∷ 6 ∷ []) 5))
  -- each player's response, each slot of it
  pub refusal16 :
      Corner 16 (with_responses (0 ∷ 4 ∷ 4 ∷ []) (4 ∷ 0 ∷ 5 ∷ []) ∷ [])
      (map (joining 8 images) (raised responses 11) ++
      map (λ bad. with_responses bad (4 ∷ 0 ∷ 5 ∷ [])) (raised (0 ∷ 4 ∷ 4 ∷ []) 11) ++
      map (with_responses (0 ∷ 4 ∷ 4 ∷ [])) (raised (4 ∷ 0 ∷ 5 ∷ []) 11))
  -- each player's image counts, and each row of the statement
  pub refusal28 :
      Corner 28 []
      (flatten (map (λ other. team_numbers schnorr_sheet 8 other commitments responses) (spoilt images 3)) ++
      flatten (map on_other (reworded table 2 (44 ∷ 48 ∷ []))))
