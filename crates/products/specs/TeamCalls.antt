-- The calls of a team's combiner (02, card 6): a field for each call, and no call's definition is named.
-- Assumes nothing.
use Rattle.std.specs.Prelude.{ℕ, List}
use Rattle.types.specs.declared.Computed.{Computed}

pub record TeamCalls : Type 0 where
  -- sheet, count of players, their images, and what they bring
  pub multiply_commitments : List ℕ → ℕ → List (List ℕ) → List (List ℕ) → Computed
  pub join_responses : List ℕ → ℕ → List (List ℕ) → List (List ℕ) → Computed
