-- `writer::sheet::write_entries` meets its contract. The invariant: the first i rows are stored, and end at `at`.
-- Assumes nothing.
use Prim.Native.Nat.{◌+◌, ◌*◌, ◌≤◌}
use mathlib.Core.Path.{◌≡◌}
use lib.ListN.{length}
use Rattle.encoding.specs.Placed.{Placed}
use Rattle.writer.specs.Parts.{rows_bytes}
use Rattle.writer.proofs.sheet.write_entries.Given as goal

abbrev pub invariant-loop-i : goal.invariant-loop-i
invariant-loop-i l =
    Placed l.initial.buffer 20 (rows_bytes l.columns l.entries l.i) l.buffer l.at × (l.at ≡ 20 + 4 * (l.columns * l.i)) × (l.i ≤ l.rows)
    × (length l.buffer ≡ length l.initial.buffer)
