-- `pattern_file::digits::bad_digits` meets its contract. The invariant: `at` is where pattern k begins, and no pattern before it has a
-- wrong digit or value. Assumes nothing.
use Prim.Native.Nat.{◌≤◌}
use mathlib.Core.Path.{◌≡◌}
use mathlib.Core.Bool.{false}
use Rattle.numbers.specs.Search.{any}
use Rattle.patterns.specs.PatternFile.{misnamed, pattern_at, pattern_start}
use Rattle.pattern_file.proofs.digits.bad_digits.Given as goal

abbrev pub invariant-loop : goal.invariant-loop
invariant-loop l = (l.at ≡ pattern_start l.file l.counter) × (l.counter ≤ l.count) × (any l.counter (λ i. misnamed (pattern_at l.file i)) ≡ false)
