-- Lists by index: items at a stride, the places of an array that are read, and padding.
-- Assumes nothing.
use Rattle.std.specs.Prelude.{ℕ, zero, suc, ◌+◌, ◌-◌, List, [], ◌∷◌, ◌++◌, length, replicate, get_or}

-- n items, f at `at` and at each `step` after it
unfoldable pub items_at {ℓ} : {A : Type ℓ} → (ℕ → A) → ℕ → ℕ → ℕ → List A
items_at f at step zero = []
items_at f at step (suc n) = f at ∷ items_at f (at + step) step n

-- f 0, f 1, .. f (n − 1)
unfoldable pub tabulate {ℓ} : {A : Type ℓ} → ℕ → (ℕ → A) → List A
tabulate n f = items_at f 0 1 n

-- the first n places of an array of numbers
unfoldable pub places : ℕ → List ℕ → List ℕ
places n xs = tabulate n (λ j. get_or xs j 0)

-- a list of at most eight made eight long, with d in the places beyond
unfoldable pub pad8 {ℓ} : {A : Type ℓ} → A → List A → List A
pad8 d xs = xs ++ replicate (8 - length xs) d

-- eight zeros
unfoldable pub zeros8 : List ℕ
zeros8 = replicate 8 0

-- eight rows of eight: f i j in row i and column j of so many rows and columns, and 0 beyond
unfoldable pub eight_by_eight : ℕ → ℕ → (ℕ → ℕ → ℕ) → List (List ℕ)
eight_by_eight rows columns f = pad8 zeros8 (tabulate rows (λ i. pad8 0 (tabulate columns (f i))))
