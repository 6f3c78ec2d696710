-- A pattern file that the sheet maker makes sheets of.
-- Assumes nothing.
use Rattle.std.specs.Prelude.{false, List, ◌≡◌, ℕ}
use Rattle.patterns.specs.PatternFile.{bad_digits, bad_pattern_file}

-- neither 23 nor 24 applies to the file
abbrev pub Passes : List ℕ → Type 0
Passes f = (bad_pattern_file f ≡ false) × (bad_digits f ≡ false)
