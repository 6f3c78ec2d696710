-- The sheets of the calculator pages, as bytes. Those of one entry stand byte by byte; the others are made by the sheet maker from
-- the shipped pattern file.
-- Assumes nothing.
use Rattle.std.specs.Prelude.{ℕ, replicate, take}
use mathlib.Core.List.{List, [], ◌∷◌, ◌++◌, map, flatten}
use Rattle.formats.specs.Write.{Writing}
use Rattle.patterns.specs.Maker.{make_from}
use Rattle.patterns.specs.Table.{shipped}

-- a number below 256 in four bytes
unfoldable pub four_bytes : ℕ → List ℕ
four_bytes v = 0 ∷ 0 ∷ 0 ∷ v ∷ []

-- a sheet byte by byte, for numbers below 256: the fixed fields, and the words that follow
unfoldable pub sheet_bytes : ℕ → ℕ → ℕ → ℕ → ℕ → ℕ → List ℕ → List ℕ
sheet_bytes kind modulus order challenges rows columns words =
    0x48 ∷ 0x4F ∷ 0x4D ∷ 0 ∷ 1 ∷ kind ∷ [] ++ four_bytes modulus ++ four_bytes order ++ four_bytes challenges ++
    rows ∷ columns ∷ [] ++ flatten (map four_bytes words)

-- a sheet of kind 1 with one row and one column
unfoldable pub small_sheet : ℕ → ℕ → ℕ → ℕ → ℕ → List ℕ
small_sheet modulus order challenges entry statement = sheet_bytes 1 modulus order challenges 1 1 (entry ∷ statement ∷ [])

-- pages A to C and J: m 23, q 11, K 11, entry 2, z 13
unfoldable pub schnorr_sheet : List ℕ
schnorr_sheet = small_sheet 23 11 11 2 13

-- what the sheet maker leaves of a number of the shipped file in a buffer of 64 zeros, cut to the length that it answers
unfoldable pub made_sheet : ℕ → ℕ → ℕ → ℕ → List ℕ → List ℕ → List ℕ
made_sheet number modulus order challenges values statement =
    let made : Writing = make_from shipped number modulus order challenges values statement (replicate 64 0) in
    take made.answer.length made.buffer

-- page D: two generators, 2 and 3
unfoldable pub okamoto_sheet : List ℕ
okamoto_sheet = made_sheet 2 23 11 11 (2 ∷ 3 ∷ []) (18 ∷ [])

-- page E: h 2, B 16
unfoldable pub diffie_hellman_sheet : List ℕ
diffie_hellman_sheet = made_sheet 4 23 11 11 (2 ∷ 16 ∷ []) (13 ∷ 18 ∷ [])

-- page F: g 2, h 3, B 3
unfoldable pub product_sheet : List ℕ
product_sheet = made_sheet 5 23 11 11 (2 ∷ 3 ∷ 3 ∷ []) (12 ∷ 9 ∷ [])

-- page G: m 35, e 5, K 5, z 32
unfoldable pub root_sheet : List ℕ
root_sheet = made_sheet 0 35 5 5 [] (32 ∷ [])
