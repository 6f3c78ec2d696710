-- The calls on two watches answer the same to every input, refused calls too.
-- Assumes nothing.
use Rattle.std.specs.Prelude.{ℕ, ◌≡◌, List}
use Rattle.types.specs.declared.Round.{Round}
use Rattle.watches.specs.WatchCalls.{WatchCalls}
use Rattle.watches.specs.declared.Watch.{Watch}

pub record SameWatches (watches watches' : WatchCalls) : Type 0 where
  pub open_watch : (sheet : List ℕ) → watches.open_watch sheet ≡ watches'.open_watch sheet
  pub watch_round : (sheet : List ℕ) (w : Watch) (round : Round) → watches.watch_round sheet w round ≡ watches'.watch_round sheet w round
