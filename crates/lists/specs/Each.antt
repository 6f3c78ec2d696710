-- Lists of n numbers that satisfy a predicate.
-- Assumes nothing.
use Rattle.std.specs.Prelude.{List, [], ◌∷◌, ℕ, zero, suc}

-- the list has n numbers, and each satisfies P
abbrev pub Each : (ℕ → Type 0) → ℕ → List ℕ → Type 0
Each P zero [] = Unit {0}
Each P zero (x ∷ xs) = ⊥
Each P (suc n) [] = ⊥
Each P (suc n) (x ∷ xs) = P x × Each P n xs
