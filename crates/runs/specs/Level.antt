-- The level at which a round file is marked (02, card 3): a file of one byte w from 1 to 64. A file of rounds can pass only where
-- the product of one K for each of its rounds is at least 2^w.
-- Assumes nothing.
use Rattle.std.specs.Prelude.{ℕ, ◌^◌, ◌<◌, ◌⊎◌, ◌≢◌, Bool, not, ◌||◌, List, [], ◌∷◌, eqb, leb, ltb, get_or, length}
use Rattle.types.specs.declared.Header.{Header}
use Rattle.rules.specs.Condition.{Condition, ◌if◌}
use Rattle.formats.specs.Refusals.{Refusal12}

-- the level w that the bytes of a level file give
abbrev pub level_of : List ℕ → ℕ
level_of level = get_or level 0 0

-- not exactly one byte, or a byte that is not from 1 to 64 (25)
unfoldable pub bad_level : List ℕ → Bool
bad_level level = not (eqb (length level) 1) || ltb (level_of level) 1 || ltb 64 (level_of level)

-- the same as a fact
abbrev pub Refusal25 : List ℕ → Type 0
Refusal25 level = (length level ≢ 1) ⊎ (get_or level 0 0 < 1) ⊎ (64 < get_or level 0 0)

-- what the marker asks of a round file and a level, for a sheet's fixed fields
abbrev pub mark_conditions : Header → List ℕ → List ℕ → List Condition
mark_conditions h f level = (12 if Refusal12 h f) ∷ (25 if Refusal25 level) ∷ []

-- whether so many rounds are enough for the level w: the product of one K, the number of challenges, for each is at least 2^w
unfoldable pub strong_enough : ℕ → ℕ → ℕ → Bool
strong_enough challenges count w = leb (2 ^ w) (challenges ^ count)
