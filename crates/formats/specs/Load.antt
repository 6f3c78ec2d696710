-- Loading a sheet (01, "Turned back", 2 to 11).
-- Assumes nothing.
use Rattle.std.specs.Prelude.{ℕ, Bool, not, ◌||◌, List, [], ◌∷◌, ◌++◌, eqb, ltb, length}
use Rattle.types.specs.declared.Header.{Header}
use Rattle.types.specs.declared.Loaded.{Loaded}
use Rattle.lists.specs.Places.{zeros8}
use Rattle.rules.specs.Answer.{unless_refused}
use Rattle.rules.specs.Call.{Call, after}
use Rattle.rules.specs.Rule.{Rule, ◌when◌, lowest}
use Rattle.sigma.specs.Admission.{header_rules, element_rules}
use Rattle.sigma.specs.Comparison.{differ}
use Rattle.formats.specs.Sheet.{
  sheet_mark,
  version_of,
  header_of,
  sheet_length,
  zeros64,
  entries_of,
  statement_of,
  instance_of,
}

-- under 20 bytes, or another mark
unfoldable pub bad_start : List ℕ → Bool
bad_start s = ltb (length s) 20 || differ 3 s sheet_mark

-- the length is not exactly what the header gives
unfoldable pub bad_length : List ℕ → Bool
bad_length s = not (eqb (length s) (sheet_length (header_of s)))

-- the rules of a sheet's shape, 2 to 9
unfoldable pub shape_rules : List ℕ → List Rule
shape_rules s =
    (2 when bad_start s) ∷ (3 when not (eqb (version_of s) 1)) ∷ (header_rules (header_of s) ++ (9 when bad_length s) ∷ [])

-- the rules of a sheet, 2 to 11
unfoldable pub load_rules : List ℕ → List Rule
load_rules s = shape_rules s ++ element_rules (instance_of s)

-- the number of a sheet's refusal, 0 where it loads
unfoldable pub load_refusal : List ℕ → ℕ
load_refusal s = lowest (load_rules s)

-- a call on a sheet: the sheet's refusals are put in front of its own
abbrev pub on_sheet : {A : Type 0} → List ℕ → Call A → Call A
on_sheet s call = after (load_rules s) call

-- fixed fields of zeros
unfoldable pub no_header : Header
no_header = record { kind = 0; modulus = 0; order = 0; challenges = 0; rows = 0; columns = 0 }

-- the call that loads a sheet; a refused one gives zeros beside the number
unfoldable pub load : List ℕ → Loaded
load s =
    record {
      refusal = load_refusal s;
      header = unless_refused (load_refusal s) (header_of s) no_header;
      statement = unless_refused (load_refusal s) (statement_of s (header_of s)) zeros8;
    }

-- the call that gives a sheet's entries, all 0 where it is refused; `load` of the same bytes gives the number
unfoldable pub load_entries : List ℕ → List (List ℕ)
load_entries s = unless_refused (load_refusal s) (entries_of s (header_of s)) zeros64
