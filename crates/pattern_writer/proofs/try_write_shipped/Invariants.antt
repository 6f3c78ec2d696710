-- `pattern_writer::try_write_shipped` meets its contract. The invariant: the first k patterns of the table stand behind the count, and end
-- at `at`.
-- Assumes nothing.
use Prim.Native.Nat.{◌≤◌}
use mathlib.Core.Path.{◌≡◌}
use lib.ListN.{length}
use Rattle.encoding.specs.Placed.{Fitted}
use Rattle.pattern_writer.specs.Stored.{stored_patterns}
use Rattle.pattern_writer.proofs.try_write_shipped.Given as goal

abbrev pub invariant-loop-p : goal.invariant-loop-p
invariant-loop-p l = Fitted l.initial.buffer 6 (stored_patterns l.p-index) l.buffer l.at × (l.p-index ≤ 5) × (length l.buffer ≡ length l.initial.buffer)
