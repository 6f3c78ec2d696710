-- Any list of rounds that a watch is given, each with sheet bytes, and the accepted rounds among them, said without the watch
-- (02, card 9).
-- Assumes nothing.
use Rattle.std.specs.Prelude.{ℕ, Bool, not, cond, ◌&&◌, List, [], ◌∷◌, ◌++◌, eqb, length}
use Rattle.types.specs.declared.Round.{Round}
use Rattle.formats.specs.Sheet.{instance_of}
use Rattle.runs.specs.Run.{session_after}
use Rattle.runs.specs.RunCalls.{RunCalls}
use Rattle.sigma.specs.Answer.{is_accepted}
use Rattle.sigma.specs.Comparison.{differ}
use Rattle.sigma.specs.Reads.{padded_round}
use Rattle.watches.specs.WatchCalls.{WatchCalls}
use Rattle.watches.specs.declared.Watch.{Watch}
use Rattle.watches.specs.declared.Watched.{Watched}

-- a call with what it brings: sheet bytes and a round
pub data WatchCall : Type 0 where
  Hear : List ℕ → Round → WatchCall

-- whether two lists of bytes are the same
unfoldable pub is_same : List ℕ → List ℕ → Bool
is_same xs ys = eqb (length xs) (length ys) && not (differ (length ys) xs ys)

module _ (watches : WatchCalls) where
  open watches use {watch_round}

  -- what a call answers
  abbrev pub call_watch : WatchCall → Watch → Watched
  call_watch (Hear bytes round) w = watch_round bytes w round

  -- the watch after a list of calls, each given the watch that the last one handed back
  abbrev pub after_hearing : List WatchCall → Watch → Watch
  after_hearing calls w = session_after call_watch (λ told. told.watch) calls w

module _ (runs : RunCalls) where
  open runs use {judge_round}

  -- the accepted rounds of a list of calls, the newest first: those that came with the sheet's bytes and that the call that judges
  -- rounds accepts; what is read of them, with zeros beyond
  unfoldable pub heard : List ℕ → List WatchCall → List Round
  heard sheet [] = []
  heard sheet ((Hear bytes round) ∷ later) =
      heard sheet later ++
      cond (is_same bytes sheet && is_accepted (judge_round sheet round)) (padded_round (instance_of sheet).header round ∷ []) []
