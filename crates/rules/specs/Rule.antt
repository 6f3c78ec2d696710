-- Refusals. A call's rules stand in a list, and the first that is broken gives the answer's number.
-- Assumes nothing.
use Rattle.std.specs.Prelude.{◌≡◌, Bool, true, false, cond, ◌&&◌, List, [], ◌∷◌, ℕ, ltb}

infix 10 ◌when◌
-- a refusal's number and whether its condition holds
pub data Rule : Type 0 where
  ◌when◌ : ℕ → Bool → Rule

-- the number of the first rule that applies, 0 where none does
unfoldable pub lowest : List Rule → ℕ
lowest [] = 0
lowest ((n when broken) ∷ rules) = cond broken n (lowest rules)

-- no rule of the list applies
abbrev pub Clear : List Rule → Type 0
Clear [] = Unit {0}
Clear ((n when broken) ∷ rules) = (broken ≡ false) × Clear rules

-- every rule has a number above 0, so that 0 can stand for "no rule applies"
abbrev pub all_positive : List Rule → Bool
all_positive [] = true
all_positive ((n when broken) ∷ rules) = ltb 0 n && all_positive rules
