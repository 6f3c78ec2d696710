-- Numbers as bytes, high byte first (01, "The sheet"), over the width.
-- Assumes nothing.
use Rattle.std.specs.Prelude.{ℕ, zero, suc, ◌+◌, ◌*◌, ◌/◌, ◌%◌, ◌<◌, List, [], ◌∷◌, ◌++◌, get_or}
use Rattle.lists.specs.Places.{items_at}

-- the number in the w bytes of s from index `at` on; a place beyond the end counts as 0
unfoldable pub number_at : ℕ → List ℕ → ℕ → ℕ
number_at zero s at = 0
number_at (suc w) s at = number_at w s at * 256 + get_or s (at + w) 0

-- the n numbers of four bytes each from index `at` on
abbrev pub words_at : List ℕ → ℕ → ℕ → List ℕ
words_at s at n = items_at (number_at 4 s) at 4 n

-- the w bytes of the number v
unfoldable pub bytes_of : ℕ → ℕ → List ℕ
bytes_of zero v = []
bytes_of (suc w) v = bytes_of w (v / 256) ++ (v % 256) ∷ []

-- the bytes of each number of vs in turn, w bytes a number
unfoldable pub bytes_of_each : ℕ → List ℕ → List ℕ
bytes_of_each w [] = []
bytes_of_each w (v ∷ vs) = bytes_of w v ++ bytes_of_each w vs

-- every number of a list is below the bound (a missing place counts as 0)
abbrev pub AllBelow : ℕ → List ℕ → Type 0
AllBelow bound vs = (i : ℕ) → get_or vs i 0 < bound

-- every number of a list is a byte (a missing place counts as 0)
abbrev pub AllBytes : List ℕ → Type 0
AllBytes s = (i : ℕ) → get_or s i 0 < 256
