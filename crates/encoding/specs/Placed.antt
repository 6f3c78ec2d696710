-- Bytes placed in a slice: what is stored, and where it ends.
-- Assumes nothing.
use Rattle.std.specs.Prelude.{ℕ, ◌+◌, ◌-◌, ◌≡◌, List, length, take}
use Rattle.std.proofs.lemmas.List.Edits.{sets}

-- `after` is `before` with the bytes stored from index `at` on, and `next` is the index behind them
pub record Placed (before : List ℕ) (at : ℕ) (bytes after : List ℕ) (next : ℕ) : Type 0 where
  pub stored : after ≡ sets before at bytes
  pub behind : next ≡ at + length bytes

-- the same of the bytes that have room from index `at` on: the others are left out, and all are if `at` is beyond the end
pub record Fitted (before : List ℕ) (at : ℕ) (bytes after : List ℕ) (next : ℕ) : Type 0 where
  pub placed : Placed before at (take (length before - at) bytes) after next
