-- The order of the numbers, 01's and the cards' (02): "lowest" is the earliest there, and each call's rules are a sublist.
-- Assumes nothing.
use Rattle.std.specs.Prelude.{Bool, true, false, cond, List, [], ◌∷◌, ℕ, suc, eqb}

-- the numbers in their order (01, "Turned back"; 02's cards put theirs in): the earliest that applies is given
unfoldable pub refusal_order : List ℕ
refusal_order =
    23 ∷ 24 ∷ 1 ∷ 2 ∷ 3 ∷ 4 ∷ 5 ∷ 6 ∷ 7 ∷ 8 ∷ 9 ∷ 27 ∷ 29 ∷ 30 ∷ 10 ∷ 11 ∷ 26 ∷ 37 ∷ 35 ∷ 36 ∷ 12 ∷ 25 ∷ 13 ∷ 14 ∷ 15 ∷ 16 ∷ 28 ∷ 31 ∷
    17 ∷ 18 ∷ 19 ∷ 20 ∷ 21 ∷ 32 ∷ 33 ∷ 34 ∷ 22 ∷ []

-- the numbers of a sheet that does not load, 2 to 11
unfoldable pub sheet_numbers : List ℕ
sheet_numbers = 2 ∷ 3 ∷ 4 ∷ 5 ∷ 6 ∷ 7 ∷ 8 ∷ 9 ∷ 10 ∷ 11 ∷ []

-- whether xs is left when some elements of ys are taken away
unfoldable pub is_sublist : List ℕ → List ℕ → Bool
is_sublist [] ys = true
is_sublist (x ∷ xs) [] = false
is_sublist (x ∷ xs) (y ∷ ys) = cond (eqb x y) (is_sublist xs ys) (is_sublist (x ∷ xs) ys)

-- how many numbers of a list stand before the first n, all of them where n is none of them
unfoldable pub position_in : List ℕ → ℕ → ℕ
position_in [] n = 0
position_in (m ∷ ms) n = cond (eqb n m) 0 (suc (position_in ms n))

-- the place of a number in the order
unfoldable pub position : ℕ → ℕ
position n = position_in refusal_order n
