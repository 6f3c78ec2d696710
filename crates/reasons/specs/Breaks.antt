-- Which values break which of 01's rules 2 to 16, and where they stand in the files (02, card 1; 01, "The sheet", "A round" and
-- "Turned back"). Each fact reads the value at the offset, the fixed fields and the width of a file's challenges, and nothing else
-- of the program. A rule is asked only where no lower one is broken, and its value then stands inside the file.
-- Assumes nothing.
use Rattle.std.specs.Prelude.{ℕ, ◌+◌, ◌*◌, ◌<◌, ◌≤◌, ◌≡◌, ◌⊎◌, ◌≢◌, List, [], ◌∷◌, length}
use Rattle.encoding.specs.Bytes.{number_at}
use Rattle.encoding.specs.Text.{ascii}
use Rattle.rules.specs.Condition.{Applies, Condition, ◌if◌}
use Rattle.formats.specs.Meaning.{IsVersion}
use Rattle.formats.specs.RoundFile.{challenge_width}
use Rattle.formats.specs.Sheet.{header_of}
use Rattle.sigma.specs.Element.{Coordinate, Element}
use Rattle.sigma.specs.Reads.{Agree, Differ}
use Rattle.sigma.specs.Refusals.{Refusal8}

-- v is no number of rows or columns
abbrev pub NoSize : ℕ → Type 0
NoSize v = (v < 1) ⊎ (8 < v)

-- the statement of a sheet begins at `start`: behind the entries in kind 1, behind the fixed fields in kind 2
abbrev pub StatementAt : List ℕ → ℕ → Type 0
StatementAt s start =
    ((number_at 1 s 5 ≡ 1) × (start ≡ 20 + 4 * (number_at 1 s 18 * number_at 1 s 19))) ⊎ ((number_at 1 s 5 ≡ 2) × (start ≡ 20))

-- the rules that the value at offset o of a sheet breaks: mark, version, kind, modulus, ℓ, rows and columns, K, an entry of kind
-- 1, a statement value; of rows and columns that differ in kind 2 the columns are the value that breaks the rule
abbrev pub broken_in_sheet : List ℕ → ℕ → List Condition
broken_in_sheet s o =
    (2 if ((o ≡ 0) × (20 ≤ length s) × Differ 3 s (ascii "HOM"))) ∷
    (3 if ((o ≡ 3) × (number_at 2 s 3 ≢ 1))) ∷
    (4 if ((o ≡ 5) × (number_at 1 s 5 ≢ 1) × (number_at 1 s 5 ≢ 2))) ∷
    (5 if ((o ≡ 6) × (number_at 4 s 6 < 3))) ∷
    (6 if ((o ≡ 10) × (number_at 4 s 10 < 2))) ∷
    (7 if
    (((o ≡ 18) × NoSize (number_at 1 s 18)) ⊎
    ((o ≡ 19) × (NoSize (number_at 1 s 19) ⊎ ((number_at 1 s 5 ≡ 2) × (number_at 1 s 18 ≢ number_at 1 s 19)))))) ∷
    (8 if ((o ≡ 14) × Refusal8 (header_of s))) ∷
    (10 if
    ((number_at 1 s 5 ≡ 1) × ((i : ℕ) × (j : ℕ) × (i < number_at 1 s 18) × (j < number_at 1 s 19) ×
    (o ≡ 20 + 4 * (number_at 1 s 19 * i + j)) × (¬ Element (header_of s) (number_at 4 s o))))) ∷
    (11 if
    ((i : ℕ) × (start : ℕ) × (i < number_at 1 s 18) × StatementAt s start × (o ≡ start + 4 * i) ×
    (¬ Element (header_of s) (number_at 4 s o)))) ∷ []

-- the rules that the value at offset o of a round file breaks: mark, version or count; a count of no rounds; and in round 0,
-- whose record begins at 7, a commitment value, the challenge and a response slot
abbrev pub broken_in_file : List ℕ → List ℕ → ℕ → List Condition
broken_in_file s f o =
    (12 if
    ((7 ≤ length f) ×
    (((o ≡ 0) × Differ 3 f (ascii "RND")) ⊎ ((o ≡ 3) × (¬ IsVersion (number_at 2 f 3))) ⊎ ((o ≡ 5) × (512 < number_at 2 f 5))))) ∷
    (13 if ((o ≡ 5) × (number_at 2 f 5 ≡ 0))) ∷
    (14 if ((i : ℕ) × (i < number_at 1 s 18) × (o ≡ 7 + 4 * i) × (¬ Element (header_of s) (number_at 4 f o)))) ∷
    (15 if ((o ≡ 7 + 4 * number_at 1 s 18) × (number_at 4 s 14 ≤ number_at (challenge_width f) f o))) ∷
    (16 if
    ((j : ℕ) × (j < number_at 1 s 19) × (o ≡ 7 + 4 * number_at 1 s 18 + challenge_width f + 4 * j) ×
    (¬ Coordinate (header_of s) (number_at 4 f o)))) ∷ []

-- the value at offset o breaks rule n: in the sheet for 2 to 11, in the round file for 12 to 16
abbrev pub Breaks : List ℕ → List ℕ → ℕ → ℕ → Type 0
Breaks s f n o = Applies (broken_in_sheet s o) n ⊎ Applies (broken_in_file s f o) n

-- it is the first that does
pub record FirstBreak (s f : List ℕ) (n o : ℕ) : Type 0 where
  pub breaks : Breaks s f n o
  pub before : (p : ℕ) → p < o → ¬ Breaks s f n p

-- mark, version and count of a round file are right
pub record RightStart (f : List ℕ) : Type 0 where
  pub mark : Agree 3 f (ascii "RND")
  pub version : IsVersion (number_at 2 f 3)
  pub count : number_at 2 f 5 ≤ 512

-- the rules that a file's length l breaks: a header that is too short, or, all else being right, a length that does not fit
abbrev pub broken_by_length : List ℕ → List ℕ → ℕ → List Condition
broken_by_length s f l =
    (2 if ((l ≡ length s) × (l < 20))) ∷
    (9 if ((l ≡ length s) × ((start : ℕ) × StatementAt s start × (l ≢ start + 4 * number_at 1 s 18)))) ∷
    (12 if
    ((l ≡ length f) × ((l < 7) ⊎
    (RightStart f × (l ≢ 7 + number_at 2 f 5 * (4 * number_at 1 s 18 + challenge_width f + 4 * number_at 1 s 19)))))) ∷ []

-- the length l breaks rule n
abbrev pub LengthBreaks : List ℕ → List ℕ → ℕ → ℕ → Type 0
LengthBreaks s f n l = Applies (broken_by_length s f l) n
