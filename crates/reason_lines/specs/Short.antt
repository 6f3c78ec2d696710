-- The reason's line (02, cards 1 and 8) in a slice.
-- Assumes nothing.
use Rattle.std.specs.Prelude.{ℕ, ◌≤◌, List, length}
use Rattle.encoding.specs.Placed.{Fitted}

-- a line of at most 201 bytes is stored at the start, as far as it has room
pub record ShortLine (before line after : List ℕ) (next : ℕ) : Type 0 where
  pub fitted : Fitted before 0 line after next
  pub short : length line ≤ 201
