-- A list's members, lists without repetition, and rising lists.
-- Assumes nothing.
use Rattle.std.specs.Prelude.{◌≡◌, ◌⊎◌, List, [], ◌∷◌, ℕ, suc, ◌<◌, length, get_or}

-- x stands in the list
abbrev pub Member : {A : Type 0} → A → List A → Type 0
Member x [] = ⊥
Member x (y ∷ ys) = (x ≡ y) ⊎ Member x ys

-- no element stands twice in the list
abbrev pub EachOnce : {A : Type 0} → List A → Type 0
EachOnce [] = Unit {0}
EachOnce (x ∷ xs) = ¬ Member x xs × EachOnce xs

-- each number is below the next
abbrev pub Rising : List ℕ → Type 0
Rising xs = (j : ℕ) → suc j < length xs → get_or xs j 0 < get_or xs (suc j) 0
