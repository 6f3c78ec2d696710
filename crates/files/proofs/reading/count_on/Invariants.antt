-- The scratch buffer has its length, and the total is at least what was read before and fits 64 bits. The measure: how much can
-- still be counted.
use Rattle.std.proofs.Common.{◌≤◌, ◌<◌, ◌≡◌, ◌-◌, ◌^◌, length}
use Rattle.files.proofs.reading.count_on.Given as goal

abbrev pub invariant-loop-more : goal.invariant-loop-more
invariant-loop-more g l = (length l.scratch ≡ 4096) × (l.fn.done ≤ l.total) × (l.total < 2 ^ 64)

abbrev pub decreases-loop-more : goal.decreases-loop-more
decreases-loop-more g l = 2 ^ 64 - l.total
