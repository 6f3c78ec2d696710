-- The calls on a watch as they are defined, by the definitions that the contracts cite, and the words on calls of these.
-- Assumes nothing.
use Rattle.std.specs.Prelude.{ℕ, List}
use Rattle.types.specs.declared.Round.{Round}
use Rattle.runs.specs.Ours.{run_calls}
use Rattle.watches.specs.Heard.{WatchCall, call_watch as call_watch_by, after_hearing as after_hearing_by, heard as heard_by}
use Rattle.watches.specs.Watch.{open_watch, watch_round}
use Rattle.watches.specs.WatchCalls.{WatchCalls}
use Rattle.watches.specs.declared.Watch.{Watch}
use Rattle.watches.specs.declared.Watched.{Watched}

abbrev pub watch_calls : WatchCalls
watch_calls = record {
  open_watch = open_watch;
  watch_round = watch_round;
}

unfoldable pub call_watch : WatchCall → Watch → Watched
call_watch call w = call_watch_by watch_calls call w

unfoldable pub after_hearing : List WatchCall → Watch → Watch
after_hearing calls w = after_hearing_by watch_calls calls w

unfoldable pub heard : List ℕ → List WatchCall → List Round
heard sheet calls = heard_by run_calls sheet calls
