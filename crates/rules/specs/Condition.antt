-- 01's conditions as facts, and the number that they give. A call's rules are tests that say its conditions.
-- Assumes nothing.
use Rattle.std.specs.Prelude.{◌≡◌, List, [], ◌∷◌, ◌⊎◌, ℕ}
use Rattle.rules.specs.Rule.{Rule, ◌when◌}
use Rattle.rules.specs.Says.{Says}

infix 10 ◌if◌
-- a refusal's number and its condition
pub data Condition : Type 1 where
  ◌if◌ : ℕ → Type 0 → Condition

-- n is the answer's number: that of the first condition that holds, 0 where none does
abbrev pub Given : List Condition → ℕ → Type 0
Given [] n = n ≡ 0
Given ((m if holds) ∷ conditions) n = (holds × (n ≡ m)) ⊎ ((¬ holds) × Given conditions n)

-- n is the number of a condition that holds
abbrev pub Applies : List Condition → ℕ → Type 0
Applies [] n = ⊥
Applies ((m if holds) ∷ conditions) n = (holds × (n ≡ m)) ⊎ Applies conditions n

-- the rules have the conditions' numbers, and each test says its condition
abbrev pub Tests : List Rule → List Condition → Type 0
Tests [] [] = Unit {0}
Tests [] (condition ∷ conditions) = ⊥
Tests (rule ∷ rules) [] = ⊥
Tests ((n when broken) ∷ rules) ((m if holds) ∷ conditions) = (n ≡ m) × Says broken holds × Tests rules conditions
