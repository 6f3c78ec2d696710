-- `answer_lines::write_slots` meets its contract. The invariant: the slots before this one are stored.
-- Assumes nothing.
use mathlib.Core.Path.{◌≡◌}
use mathlib.Core.List.{flatten, map}
use lib.ListN.{length}
use Rattle.lists.specs.Places.{places}
use Rattle.encoding.specs.Placed.{Fitted}
use Rattle.runs.specs.Marker.{row_word}
use Rattle.answer_lines.proofs.write_slots.Given as goal

abbrev pub invariant-loop-value : goal.invariant-loop-value
invariant-loop-value l =
    Fitted l.initial.text l.at (flatten (map row_word (places l.value-index l.fn.values))) l.text l.next
    × (length l.text ≡ length l.initial.text)
