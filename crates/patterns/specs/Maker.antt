-- The sheet maker over a pattern file (02, card 2; refusals 23, 24, 1, 5, 6, 8, 10, 11 and 22).
-- Assumes nothing.
use Rattle.std.specs.Prelude.{ℕ, ◌-◌, Bool, not, cond, ◌||◌, List, [], ◌∷◌, eqb, ltb, length}
use Rattle.rules.specs.Call.{answer}
use Rattle.rules.specs.Rule.{Rule, ◌when◌}
use Rattle.sigma.specs.Admission.{bad_modulus, bad_order, bad_count, bad_statement}
use Rattle.sigma.specs.Element.{some_non_element}
use Rattle.sigma.specs.Instance.{Instance}
use Rattle.formats.specs.Encode.{sheet_of}
use Rattle.formats.specs.Sheet.{sheet_length}
use Rattle.formats.specs.Write.{Writing, short, writing_at_start}
use Rattle.patterns.specs.Pattern.{Pattern, made_for, root}
use Rattle.patterns.specs.PatternFile.{bad_digits, bad_pattern_file, pattern_at, pattern_count}

-- the kind of the sheets that a number asks for: 2 for 0, the root, and 1 for every other
unfoldable pub asked_kind : ℕ → ℕ
asked_kind number = cond (eqb number 0) 2 1

-- the pattern that a number asks for: the root for 0, else the file's pattern of that number, from 1
unfoldable pub asked_pattern : List ℕ → ℕ → Pattern
asked_pattern f number = cond (eqb number 0) root (pattern_at f (number - 1))

-- the values of the sheet that is asked for
unfoldable pub asked : List ℕ → ℕ → ℕ → ℕ → ℕ → List ℕ → List ℕ → Instance
asked f number modulus order challenges values statement =
    made_for (asked_kind number) (asked_pattern f number) modulus order challenges values statement

-- the number is above the file's count, or the count of public or statement values is wrong (1)
unfoldable pub bad_asked : List ℕ → ℕ → List ℕ → List ℕ → Bool
bad_asked f number values statement =
    ltb (pattern_count f) number || not (eqb (length values) (asked_pattern f number).values) ||
    not (eqb (length statement) (asked_pattern f number).rows)

-- the rules of the values and the buffer, of the sheet that is made of a pattern
unfoldable pub made_rules : List ℕ → Instance → List ℕ → List Rule
made_rules values inst buffer =
    (5 when bad_modulus inst.header) ∷
    (6 when bad_order inst.header) ∷
    (8 when bad_count inst.header) ∷
    (10 when some_non_element inst.header (length values) values) ∷
    (11 when bad_statement inst) ∷
    (22 when short buffer (sheet_length inst.header)) ∷ []

-- the maker's rules: the whole file's first, whichever pattern is asked for
unfoldable pub make_rules : List ℕ → ℕ → List ℕ → List ℕ → Instance → List ℕ → List Rule
make_rules f number values statement inst buffer =
    (23 when bad_pattern_file f) ∷
    (24 when bad_digits f) ∷
    (1 when bad_asked f number values statement) ∷ made_rules values inst buffer

-- the sheet maker: the sheet of the pattern that is asked for
unfoldable pub make_from : List ℕ → ℕ → ℕ → ℕ → ℕ → List ℕ → List ℕ → List ℕ → Writing
make_from f number modulus order challenges values statement buffer =
    let inst : Instance = asked f number modulus order challenges values statement in
    answer (writing_at_start (make_rules f number values statement inst buffer) (sheet_of inst) buffer)
