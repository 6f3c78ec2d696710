-- The numbers below a bound that pass a test, and all choices of n values.
-- Assumes nothing.
use Rattle.std.specs.Prelude.{Bool, cond, ℕ, zero, suc}
use mathlib.Core.List.{List, [], ◌∷◌, ◌++◌, map, flat_map}

-- the numbers below n that pass the test, rising
unfoldable pub selected : ℕ → (ℕ → Bool) → List ℕ
selected zero p = []
selected (suc n) p = selected n p ++ cond (p n) (n ∷ []) []

-- all lists of n of the values, in the order of the values
unfoldable pub choices : ℕ → List ℕ → List (List ℕ)
choices zero values = [] ∷ []
choices (suc n) values = flat_map (λ v. map (λ xs. v ∷ xs) (choices n values)) values
