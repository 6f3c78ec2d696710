-- The calls on a watch for used nonces (02, card 9): a field for each call, and no call's definition is named.
-- Assumes nothing.
use Rattle.std.specs.Prelude.{ℕ, List}
use Rattle.types.specs.declared.Round.{Round}
use Rattle.watches.specs.declared.Opened.{Opened}
use Rattle.watches.specs.declared.Watch.{Watch}
use Rattle.watches.specs.declared.Watched.{Watched}

pub record WatchCalls : Type 0 where
  -- a watch on a sheet's bytes
  pub open_watch : List ℕ → Opened
  -- a sheet's bytes, the watch, and a round's values
  pub watch_round : List ℕ → Watch → Round → Watched
