-- `converter::records::write_records` meets its contract. The invariant: the records before record k stand in the buffer, one
-- behind the other, and no other byte is changed. The measure: how many records are left.
-- Assumes nothing.
use Prim.Native.Nat.{◌-◌, ◌≤◌}
use mathlib.Core.Path.{◌≡◌}
use lib.ListN.{length}
use Rattle.encoding.specs.Placed.{Placed}
use Rattle.formats.specs.RoundFile.{record_start}
use Rattle.converter.specs.Records.{other_records, other_width}
use Rattle.converter.proofs.records.write_records.Given as goal

abbrev pub invariant-loop-k : goal.invariant-loop-k
invariant-loop-k l =
    Placed l.initial.buffer 7 (other_records l.h l.file l.k) l.buffer (record_start (other_width l.file) l.h l.k)
    × (l.k ≤ l.rounds)
    × (length l.buffer ≡ length l.initial.buffer)

abbrev pub decreases-loop-k : goal.decreases-loop-k
decreases-loop-k l = l.rounds - l.k
