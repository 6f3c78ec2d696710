-- The game's text (02, card 12): a field for the call, and no definition is named.
-- Assumes nothing.
use Rattle.std.specs.Prelude.{ℕ, List}

pub record GameCalls : Type 0 where
  -- sheet and file
  pub game_text : List ℕ → List ℕ → List ℕ
