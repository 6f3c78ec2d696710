-- The refusals of pattern files and of the sheet maker (02, card 2; 01, "Turned back") by each part of their conditions: a row for each of
-- two patterns, each dimension, digit and value, and each value that the maker takes.
-- Assumes nothing.
use Rattle.std.specs.Prelude.{ℕ, replicate}
use mathlib.Core.List.{List, [], ◌∷◌, ◌++◌, flatten, map}
use Rattle.patterns.specs.Maker.{make_from}
use Rattle.examples.specs.Corners.{Corner, asking_root, shipped_bytes}
use Rattle.examples.specs.TwoRows.{spoilt}

-- Schnorr's pattern
unfoldable pub only_digit : List ℕ
only_digit = 1 ∷ 1 ∷ 1 ∷ 1 ∷ []

-- a file of two patterns
unfoldable pub two_patterns : List ℕ → List ℕ → List ℕ
two_patterns pattern pattern' = 0x50 ∷ 0x41 ∷ 0x54 ∷ 0 ∷ 1 ∷ 2 ∷ [] ++ pattern ++ pattern'

-- the numbers for the root, asked of files that have a pattern before or after Schnorr's
unfoldable pub either_place : List ℕ → List ℕ
either_place pattern = asking_root (two_patterns pattern only_digit) ∷ asking_root (two_patterns only_digit pattern) ∷ []

-- patterns at the bounds of a number
abbrev pub PatternCorner : ℕ → List (List ℕ) → List (List ℕ) → Type 0
PatternCorner number inside outside = Corner number (flatten (map either_place inside)) (flatten (map either_place outside))

-- the sheet maker's number for the product, of m, ℓ, K, the values g, h, B and the statement, and for the root
unfoldable pub making_product : ℕ → ℕ → ℕ → List ℕ → List ℕ → ℕ
making_product m ℓ K values statement = (make_from shipped_bytes 5 m ℓ K values statement (replicate 52 0)).answer.refusal

unfoldable pub making_root : ℕ → ℕ → ℕ → ℕ → ℕ
making_root m e K z = (make_from shipped_bytes 0 m e K [] (z ∷ []) (replicate 24 0)).answer.refusal

-- page F's values
unfoldable pub as_f : ℕ → ℕ → ℕ → ℕ
as_f m ℓ K = making_product m ℓ K (2 ∷ 3 ∷ 3 ∷ []) (12 ∷ 9 ∷ [])

pub record PatternCorners : Type 0 where
  -- rows, columns and number of values, each below 1 and above 8
  pub refusal23 :
      PatternCorner 23 (only_digit ∷ (8 ∷ 1 ∷ 1 ∷ replicate 8 1) ∷ (1 ∷ 8 ∷ 8 ∷ 1 ∷ 2 ∷ 3 ∷ 4 ∷ 5 ∷ 6 ∷ 7 ∷ 8 ∷ []) ∷ [])
      ((0 ∷ 1 ∷ 1 ∷ []) ∷ (9 ∷ 1 ∷ 1 ∷ replicate 9 1) ∷ (1 ∷ 0 ∷ 1 ∷ []) ∷ (1 ∷ 9 ∷ 1 ∷ replicate 9 1) ∷ (1 ∷ 1 ∷ 0 ∷ 0 ∷ []) ∷
      (1 ∷ 1 ∷ 9 ∷ 1 ∷ []) ∷ [])
  -- each of four digits above the one value, which the others name, and each of three values that no digit names
  pub refusal24 :
      PatternCorner 24 ((2 ∷ 2 ∷ 1 ∷ 1 ∷ 0 ∷ 0 ∷ 0 ∷ []) ∷ (1 ∷ 3 ∷ 3 ∷ 3 ∷ 1 ∷ 2 ∷ []) ∷ [])
      (map (λ digits. 2 ∷ 2 ∷ 1 ∷ digits) (spoilt (1 ∷ 1 ∷ 1 ∷ 1 ∷ []) 2) ++
      (1 ∷ 3 ∷ 3 ∷ 2 ∷ 2 ∷ 3 ∷ []) ∷ (1 ∷ 3 ∷ 3 ∷ 1 ∷ 1 ∷ 3 ∷ []) ∷ (1 ∷ 3 ∷ 3 ∷ 1 ∷ 2 ∷ 2 ∷ []) ∷ [])
  -- the maker's own, for a pattern and for the root
  pub making5 : Corner 5 (making_product 3 11 11 (replicate 3 1) (replicate 2 1) ∷ []) (as_f 2 11 11 ∷ making_root 2 5 5 1 ∷ [])
  pub making6 : Corner 6 (as_f 23 11 11 ∷ making_root 35 5 5 32 ∷ []) (as_f 23 1 11 ∷ making_root 35 1 5 32 ∷ [])
  pub making8 :
      Corner 8 (as_f 23 11 2 ∷ making_root 35 5 2 32 ∷ making_product 3 65537 65536 (replicate 3 1) (replicate 2 1) ∷ [])
      (as_f 23 11 1 ∷ as_f 23 11 12 ∷ as_f 23 22 3 ∷ making_product 3 65537 65537 (replicate 3 1) (replicate 2 1) ∷
      making_root 35 5 1 32 ∷ making_root 35 5 6 32 ∷ [])
  -- each public value, and each statement value
  pub making10 :
      Corner 10 [] (map (λ values. making_product 23 11 11 values (12 ∷ 9 ∷ [])) (spoilt (2 ∷ 3 ∷ 3 ∷ []) 5 ++ spoilt (2 ∷ 3 ∷ 3 ∷ []) 25))
  pub making11 :
      Corner 11 []
      (map (making_product 23 11 11 (2 ∷ 3 ∷ 3 ∷ [])) (spoilt (12 ∷ 9 ∷ []) 5 ++ spoilt (12 ∷ 9 ∷ []) 35) ++
      making_root 35 5 5 14 ∷ making_root 35 5 5 37 ∷ [])
  pub making22 :
      Corner 22 []
      ((make_from shipped_bytes 5 23 11 11 (2 ∷ 3 ∷ 3 ∷ []) (12 ∷ 9 ∷ []) (replicate 51 0)).answer.refusal ∷
      (make_from shipped_bytes 0 35 5 5 [] (32 ∷ []) (replicate 23 0)).answer.refusal ∷ [])
