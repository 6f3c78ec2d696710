-- `pattern_file::layout::start_of` meets its contract. The invariant: `at` is where pattern i begins. Assumes nothing.
use Prim.Native.Nat.{◌≤◌}
use mathlib.Core.Path.{◌≡◌}
use Rattle.patterns.specs.PatternFile.{pattern_start}
use Rattle.pattern_file.proofs.layout.start_of.Given as goal

abbrev pub invariant-loop : goal.invariant-loop
invariant-loop l = (l.at ≡ pattern_start l.file l.counter) × (l.counter ≤ l.k)
