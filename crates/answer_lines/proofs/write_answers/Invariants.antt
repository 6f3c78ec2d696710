-- `answer_lines::write_answers` meets its contract. The invariant: the lines of the challenges before this one are stored.
-- Assumes nothing.
use mathlib.Core.Path.{◌≡◌}
use lib.ListN.{length}
use Rattle.encoding.specs.Placed.{Fitted}
use Rattle.instance.specs.Values.{values_of}
use Rattle.answer_lines.specs.Lines.{lines_below}
use Rattle.answer_lines.proofs.write_answers.Given as goal

abbrev pub invariant-loop-c : goal.invariant-loop-c
invariant-loop-c l =
    Fitted l.initial.text 0 (lines_below (values_of l.sheet) l.t l.c) l.text l.next × (length l.text ≡ length l.initial.text)
