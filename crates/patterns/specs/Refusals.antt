-- The conditions of refusals 23, 24 and 1 (02, card 2; 01 for 1 as it was), as facts, and which of them the calls on pattern files
-- ask, in order.
-- Assumes nothing.
use Rattle.std.specs.Prelude.{ℕ, ◌*◌, ◌<◌, ◌≤◌, ◌⊎◌, ◌≢◌, List, [], ◌∷◌, length, get_or}
use Rattle.rules.specs.Condition.{Condition, ◌if◌}
use Rattle.sigma.specs.Instance.{Instance}
use Rattle.sigma.specs.Reads.{Differ}
use Rattle.sigma.specs.Refusals.{Refusal5, Refusal6, Refusal8, Refusal11, SomeNonElement}
use Rattle.formats.specs.Sheet.{sheet_length}
use Rattle.patterns.specs.Maker.{asked_pattern}
use Rattle.patterns.specs.Pattern.{Pattern}
use Rattle.patterns.specs.PatternFile.{pattern_at, pattern_count, pattern_mark, pattern_start, pattern_version}
use Rattle.patterns.specs.Table.{pattern_of}

-- rows, columns or number of public values lie outside 1 to 8
abbrev pub Missized : Pattern → Type 0
Missized p =
    (p.rows < 1) ⊎ (8 < p.rows) ⊎ (p.columns < 1) ⊎ (8 < p.columns) ⊎ (p.values < 1) ⊎ (8 < p.values)

-- the file has under 6 bytes, another mark, a version other than 1, a count outside 1 to 32, a pattern of a wrong size, or a
-- length that is not where the last pattern ends
abbrev pub Refusal23 : List ℕ → Type 0
Refusal23 f =
    (length f < 6) ⊎ Differ 3 f pattern_mark ⊎ (pattern_version f ≢ 1) ⊎ (pattern_count f < 1) ⊎ (32 < pattern_count f) ⊎
    ((k : ℕ) × (k < pattern_count f) × Missized (pattern_at f k)) ⊎ (length f ≢ pattern_start f (pattern_count f))

-- a digit is above the number of public values, or a value is named by no digit
abbrev pub Misnamed : Pattern → Type 0
Misnamed p =
    ((d : ℕ) × (d < p.rows * p.columns) × (p.values < get_or p.digits d 0)) ⊎
    ((v : ℕ) × (1 ≤ v) × (v ≤ p.values) × ((d : ℕ) → d < p.rows * p.columns → get_or p.digits d 0 ≢ v))

-- some pattern of the file has such a digit or value
abbrev pub Refusal24 : List ℕ → Type 0
Refusal24 f = (k : ℕ) × (k < pattern_count f) × Misnamed (pattern_at f k)

-- the values and the buffer, of the sheet that is made of a pattern
abbrev pub made_conditions : List ℕ → Instance → List ℕ → List Condition
made_conditions values inst buffer =
    (5 if Refusal5 inst.header) ∷
    (6 if Refusal6 inst.header) ∷
    (8 if Refusal8 inst.header) ∷
    (10 if SomeNonElement inst.header (length values) values) ∷
    (11 if Refusal11 inst) ∷
    (22 if (length buffer < sheet_length inst.header)) ∷ []

-- the sheet maker; 1 is for a number above the file's count or a wrong count of public or statement values
abbrev pub make_conditions : List ℕ → ℕ → List ℕ → List ℕ → Instance → List ℕ → List Condition
make_conditions f number values statement inst buffer =
    (23 if Refusal23 f) ∷
    (24 if Refusal24 f) ∷
    (1 if
    ((pattern_count f < number) ⊎ (length values ≢ (asked_pattern f number).values) ⊎
    (length statement ≢ (asked_pattern f number).rows))) ∷ made_conditions values inst buffer

-- 01's sheet maker; 1 is for a number outside 1 to 6 or a wrong count of public or statement values
abbrev pub old_conditions : ℕ → List ℕ → List ℕ → Instance → List ℕ → List Condition
old_conditions number values statement inst buffer =
    (1 if
    ((number < 1) ⊎ (6 < number) ⊎ (length values ≢ (pattern_of number).values) ⊎
    (length statement ≢ (pattern_of number).rows))) ∷ made_conditions values inst buffer

-- the call that writes the shipped file, of 34 bytes
abbrev pub shipped_conditions : List ℕ → List Condition
shipped_conditions buffer = (22 if (length buffer < 34)) ∷ []
