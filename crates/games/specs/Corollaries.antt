-- What is true of the game's text beside what 02 asks: how long it is, and how much of the two files it takes.
-- Assumes nothing.
use Rattle.std.specs.Prelude.{ℕ, ◌≤◌, ◌≡◌, List, length, take}
use Rattle.games.specs.GameCalls.{GameCalls}

module _ (games : GameCalls) where
  open games use {game_text}

  pub record GameCorollaries : Type 0 where
    -- 720,896 bytes hold every text: in kind 2 up to 65,536 lines of a challenge of five digits, a space, a response of four and a
    -- newline, and less in kind 1, where K is at most q
    pub short : (sheet f : List ℕ) → length (game_text sheet f) ≤ 720896
    -- 309 bytes of a sheet and 34,824 of a file are enough
    pub kept : (a b : ℕ) → 309 ≤ a → 34824 ≤ b → (sheet f : List ℕ) → game_text (take a sheet) (take b f) ≡ game_text sheet f
