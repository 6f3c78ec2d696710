-- `pattern_file::layout::bad_patterns` meets its contract. The invariant: `at` is where pattern k begins and lies within the file,
-- and the patterns before it have right sizes. Assumes nothing.
use Prim.Native.Nat.{◌≤◌}
use mathlib.Core.Path.{◌≡◌}
use lib.ListN.{length}
use Rattle.patterns.specs.PatternFile.{pattern_start}
use Rattle.pattern_file.proofs.Walk.{SizedBefore}
use Rattle.pattern_file.proofs.layout.bad_patterns.Given as goal

abbrev pub invariant-loop : goal.invariant-loop
invariant-loop l = (l.at ≡ pattern_start l.file l.counter) × (l.at ≤ length l.file) × (l.counter ≤ l.count) × SizedBefore l.file l.counter
