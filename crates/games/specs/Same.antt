-- Two games print the same on every sheet and file.
-- Assumes nothing.
use Rattle.std.specs.Prelude.{ℕ, ◌≡◌, List}
use Rattle.games.specs.GameCalls.{GameCalls}

pub record SameGames (games games' : GameCalls) : Type 0 where
  pub game_text : (sheet f : List ℕ) → games.game_text sheet f ≡ games'.game_text sheet f
