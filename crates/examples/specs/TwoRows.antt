-- Sheets of two rows or more than one column with their worked rounds, files of one round, and lists with one place changed: what the
-- corners are made of that tell a row, a column, a round or a side from another.
-- Assumes nothing.
use Rattle.std.specs.Prelude.{ℕ, ◌+◌, get_or, length, replicate, take}
use mathlib.Core.List.{List, [], ◌∷◌, ◌++◌, flatten, map}
use Rattle.std.proofs.lemmas.List.Edits.{sets}
use Rattle.types.specs.declared.Round.{Round}
use Rattle.lists.specs.Places.{tabulate}
use Rattle.sigma.specs.Reads.{round_of}
use Rattle.examples.specs.Pages.{array}
use Rattle.examples.specs.Sheets.{four_bytes, sheet_bytes}

-- ---- lists

-- values in eight places, zeros after them
unfoldable pub eight : List ℕ → List ℕ
eight values = take 8 (values ++ replicate 8 0)

-- the lists that have another value in one place, for each place
unfoldable pub spoilt : List ℕ → ℕ → List (List ℕ)
spoilt values value = tabulate (length values) (λ i. sets values i (value ∷ []))

-- the lists that have a value raised by so much in one place, for each place
unfoldable pub raised : List ℕ → ℕ → List (List ℕ)
raised values by = tabulate (length values) (λ i. sets values i ((get_or values i 0 + by) ∷ []))

-- the sheets or files that have another value below 256 in the word at an offset, for each offset
unfoldable pub reworded : List ℕ → ℕ → List ℕ → List (List ℕ)
reworded bytes value offsets = map (λ at. sets bytes at (four_bytes value)) offsets

-- ---- sheets

-- one row and two columns: m 23, q 11, K 11, entries 2 and 3, z 18
unfoldable pub two_columns : List ℕ
two_columns = sheet_bytes 1 23 11 11 1 2 (2 ∷ 3 ∷ 18 ∷ [])

-- two rows and three columns: m 23, q 11, K 5, entries 2, 3, 4 and 3, 2, 6, z (3, 6)
unfoldable pub table : List ℕ
table = sheet_bytes 1 23 11 5 2 3 (2 ∷ 3 ∷ 4 ∷ 3 ∷ 2 ∷ 6 ∷ 3 ∷ 6 ∷ [])

-- two roots: m 35, e 5, K 5, z (32, 33)
unfoldable pub two_roots : List ℕ
two_roots = sheet_bytes 2 35 5 5 2 2 (32 ∷ 33 ∷ [])

-- ---- round files

-- a file of one round in version 1, for numbers below 256: from byte 7 on t, c in four bytes, and r
unfoldable pub wide : List ℕ → ℕ → List ℕ → List ℕ
wide t c r =
    0x52 ∷ 0x4E ∷ 0x44 ∷ 0 ∷ 1 ∷ 0 ∷ 1 ∷ [] ++ flatten (map four_bytes t) ++ four_bytes c ++ flatten (map four_bytes r)

-- the same in version 2: c in two bytes
unfoldable pub narrow : List ℕ → ℕ → List ℕ → List ℕ
narrow t c r =
    0x52 ∷ 0x4E ∷ 0x44 ∷ 0 ∷ 2 ∷ 0 ∷ 1 ∷ [] ++ flatten (map four_bytes t) ++ 0 ∷ c ∷ [] ++ flatten (map four_bytes r)

-- ---- worked rounds

-- a sheet with two accepted rounds (t, 3, r) and (t, 1, r') of one nonce, and values that are wrong in one place
pub record Case : Type 0 where
  pub sheet : List ℕ
  pub witness : List ℕ
  pub nonce : List ℕ
  pub commitment : List ℕ
  pub response : List ℕ
  pub response' : List ℕ
  -- no group element; a group element that is no value of the statement or the commitment; and what is added to a slot so that it is
  -- no slot but has the same image
  pub stranger : ℕ
  pub other : ℕ
  pub period : ℕ
  -- where the statement's values stand
  pub statement : List ℕ
  -- responses to 3 and to 1 that are wrong in the first row alone and in the second alone
  pub wrong : List (List ℕ)
  pub wrong' : List (List ℕ)

unfoldable pub exponents : Case
exponents =
    record {
      sheet = table;
      witness = 7 ∷ 1 ∷ 2 ∷ [];
      nonce = 5 ∷ 1 ∷ 3 ∷ [];
      commitment = 3 ∷ 4 ∷ [];
      response = 4 ∷ 4 ∷ 9 ∷ [];
      response' = 1 ∷ 2 ∷ 5 ∷ [];
      stranger = 5;
      other = 2;
      period = 11;
      statement = 44 ∷ 48 ∷ [];
      wrong = (5 ∷ 4 ∷ 2 ∷ []) ∷ (2 ∷ 4 ∷ 10 ∷ []) ∷ [];
      wrong' = (2 ∷ 2 ∷ 9 ∷ []) ∷ (10 ∷ 2 ∷ 6 ∷ []) ∷ [];
    }

unfoldable pub roots : Case
roots =
    record {
      sheet = two_roots;
      witness = 2 ∷ 3 ∷ [];
      nonce = 3 ∷ 2 ∷ [];
      commitment = 33 ∷ 32 ∷ [];
      response = 24 ∷ 19 ∷ [];
      response' = 6 ∷ 6 ∷ [];
      stranger = 14;
      other = 6;
      period = 35;
      statement = 20 ∷ 24 ∷ [];
      wrong = (6 ∷ 19 ∷ []) ∷ (24 ∷ 6 ∷ []) ∷ [];
      wrong' = (24 ∷ 6 ∷ []) ∷ (6 ∷ 24 ∷ []) ∷ [];
    }

-- a round in arrays of eight places
unfoldable pub round_with : List ℕ → ℕ → List ℕ → Round
round_with t c r = round_of (array t) c (array r)

-- the rounds with the challenges 3 and 1
unfoldable pub first : Case → Round
first p = round_with p.commitment 3 p.response

unfoldable pub second : Case → Round
second p = round_with p.commitment 1 p.response'
