-- 01's six patterns as 01 prints them, the sheet maker over their numbers, and the file of the first five that is shipped in
-- their place (02, card 2).
-- Assumes nothing.
use Rattle.std.specs.Prelude.{ℕ, ◌-◌, ◌*◌, ◌%◌, ◌^◌, Bool, not, cond, ◌||◌, List, [], ◌∷◌, eqb, ltb, length, get_or, take}
use Rattle.types.specs.declared.Header.{Header}
use Rattle.rules.specs.Call.{answer}
use Rattle.rules.specs.Rule.{◌when◌}
use Rattle.sigma.specs.Instance.{Instance}
use Rattle.formats.specs.Encode.{sheet_of}
use Rattle.formats.specs.Write.{Writing, short, writing_at_start}
use Rattle.patterns.specs.Maker.{made_rules}
use Rattle.patterns.specs.Pattern.{Pattern, header_for, made_for, root}
use Rattle.patterns.specs.PatternFile.{pattern_file}

-- 01's table, patterns 1 to 6: Schnorr, Okamoto, equality, Diffie-Hellman, the product and the root
unfoldable pub patterns : List Pattern
patterns =
    record { rows = 1; columns = 1; values = 1; digits = 1 ∷ [] } ∷
    record { rows = 1; columns = 2; values = 2; digits = 1 ∷ 2 ∷ [] } ∷
    record { rows = 2; columns = 1; values = 2; digits = 1 ∷ 2 ∷ [] } ∷
    record { rows = 2; columns = 1; values = 2; digits = 1 ∷ 2 ∷ [] } ∷
    record { rows = 2; columns = 3; values = 3; digits = 1 ∷ 2 ∷ 0 ∷ 3 ∷ 0 ∷ 2 ∷ [] } ∷
    root ∷ []

-- the pattern of a number from 1 to 6; 0 gives the first, and a number above 6 the root
unfoldable pub pattern_of : ℕ → Pattern
pattern_of number = get_or patterns (number - 1) root

-- the kind of a pattern's sheets: 2 for pattern 6 and 1 for every other
unfoldable pub kind_of : ℕ → ℕ
kind_of number = cond (eqb number 6) 2 1

-- the fixed fields and the values of a made sheet
unfoldable pub made_header : ℕ → ℕ → ℕ → ℕ → Header
made_header number modulus order challenges = header_for (kind_of number) (pattern_of number) modulus order challenges

unfoldable pub made : ℕ → ℕ → ℕ → ℕ → List ℕ → List ℕ → Instance
made number modulus order challenges values statement =
    made_for (kind_of number) (pattern_of number) modulus order challenges values statement

-- the commitment C(v, ρ) = g^v · h^ρ mod m of pattern 5
unfoldable pub pedersen : ℕ → ℕ → ℕ → ℕ → ℕ → ℕ
pedersen modulus g h v ρ = g ^ v * h ^ ρ % modulus

-- the number is outside 1 to 6, or the count of public or statement values is wrong (1, as 01 had it)
unfoldable pub bad_pattern : ℕ → List ℕ → List ℕ → Bool
bad_pattern number values statement =
    ltb number 1 || ltb 6 number || not (eqb (length values) (pattern_of number).values) ||
    not (eqb (length statement) (pattern_of number).rows)

-- 01's sheet maker
unfoldable pub from_pattern : ℕ → ℕ → ℕ → ℕ → List ℕ → List ℕ → List ℕ → Writing
from_pattern number modulus order challenges values statement buffer =
    let inst : Instance = made number modulus order challenges values statement in
    answer (writing_at_start ((1 when bad_pattern number values statement) ∷ made_rules values inst buffer) (sheet_of inst) buffer)

-- the file of patterns 1 to 5
unfoldable pub shipped : List ℕ
shipped = pattern_file (take 5 patterns)

-- the call that writes the shipped file (refusal 22)
unfoldable pub write_shipped : List ℕ → Writing
write_shipped buffer = answer (writing_at_start ((22 when short buffer (length shipped)) ∷ []) shipped buffer)
