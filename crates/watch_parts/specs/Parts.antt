-- A watch of its parts, since the functions that read some of them are handed no more.
-- Assumes nothing.
use Rattle.std.specs.Prelude.{ℕ, List}
use Rattle.types.specs.declared.Round.{Round}
use Rattle.watches.specs.declared.Watch.{Watch}

-- the watch that remembers so many of these rounds, of so many of these bytes
abbrev pub watch_with : List Round → List ℕ → ℕ → ℕ → Watch
watch_with rounds held size count = record { rounds = rounds; sheet = held; length = size; count = count }
