-- Each call's rules test 01's conditions, so that the number it gives is that of the first condition that holds (the law
-- `given` of the rules).
-- Assumes nothing.
use Prim.Native.Nat.{ℕ, ◌+◌, ◌<◌}
use mathlib.Core.Path.{◌≡◌, refl}
use mathlib.Core.Logic.{◌≢◌}
use mathlib.Core.List.{List, [], ◌∷◌, ◌++◌}
use lib.ListN.{length, take}
use Rattle.types.specs.declared.Header.{Header}
use Rattle.types.specs.declared.Round.{Round}
use Rattle.rules.specs.Call.{Call}
use Rattle.rules.specs.Condition.{Condition, ◌if◌, Tests}
use Rattle.rules.specs.Rule.{◌when◌}
use Rattle.rules.proofs.Condition.{given, tests_append}
use Rattle.rules.proofs.Determined.{NoneHold, none_zero}
use Rattle.rules.proofs.Says.{says_at_most, says_equal, says_not}
use Rattle.sigma.specs.Admission.{header_rules, element_rules}
use Rattle.sigma.specs.Instance.{Instance}
use Rattle.sigma.specs.Refusals.{header_conditions, element_conditions}
use Rattle.sigma.specs.Valid.{Valid}
use Rattle.sigma.proofs.Refusals.{header_tests, element_tests}
use Rattle.formats.specs.Append.{appending, starting}
use Rattle.formats.specs.Encode.{encoding}
use Rattle.formats.specs.Load.{bad_length, shape_rules, load_rules, load_refusal, on_sheet}
use Rattle.formats.specs.Refusals.{
  shape_conditions,
  load_conditions,
  encode_conditions,
  file_conditions,
  round_conditions,
  empty_conditions,
  append_conditions,
}
use Rattle.formats.specs.RoundCalls.{checking, counting}
use Rattle.formats.specs.RoundFile.{count_field, file_version, record_length, width_in_use}
use Rattle.formats.specs.Sheet.{header_of, instance_of, sheet_length, version_of}
use Rattle.formats.specs.Write.{short}
use Rattle.formats.proofs.Loads.{loads_valid}
use Rattle.formats.proofs.Tests.{
  says_bad_start,
  says_bad_length,
  says_bad_file,
  says_bad_in_use,
  says_short,
  says_unknown_version,
  says_wide_challenge,
}
use Rattle.formats.proofs.Writing.{length_no_rounds}

-- 2 to 9 of a sheet's shape
pub shape_tests : (s : List ℕ) → Tests (shape_rules s) (shape_conditions s)
unfolding shape_rules
shape_tests s =
    let h = header_of s in
    let rest =
    tests_append (header_rules h) ((9 when bad_length s) ∷ []) (header_conditions h) ((9 if (length s ≢ sheet_length h)) ∷ [])
    (header_tests h) (refl, says_bad_length s, tt) in
    (refl, says_bad_start s, (refl, says_not (says_equal (version_of s) 1), rest))

-- 2 to 11 of loading a sheet
pub load_tests : (s : List ℕ) → Tests (load_rules s) (load_conditions s)
unfolding load_rules
load_tests s =
    tests_append (shape_rules s) (element_rules (instance_of s)) (shape_conditions s) (element_conditions (instance_of s)) (shape_tests s)
    (element_tests (instance_of s))

-- 4 to 8, 10, 11 and 22 of the second writer
pub encode_tests : (i : Instance) (buffer : List ℕ) → Tests (encoding i buffer).refusals (encode_conditions i buffer)
unfolding encoding
encode_tests i buffer =
    let needed = sheet_length i.header in
    tests_append (header_rules i.header ++ element_rules i) ((22 when short buffer needed) ∷ [])
    (header_conditions i.header ++ element_conditions i) ((22 if (length buffer < needed)) ∷ [])
    (tests_append (header_rules i.header) (element_rules i) (header_conditions i.header) (element_conditions i)
    (header_tests i.header) (element_tests i))
    (refl, says_short buffer needed, tt)

-- 12 of a round file
pub file_tests : (h : Header) (f : List ℕ) → Tests (counting h f).refusals (file_conditions h f)
unfolding counting
file_tests h f = (refl, says_bad_file h f, tt)

-- 12 and 13 of a round of a file
pub round_tests : (h : Header) (f : List ℕ) (k : ℕ) → Tests (checking h f k).refusals (round_conditions h f k)
unfolding checking
round_tests h f k = (refl, says_bad_file h f, (refl, says_at_most (count_field f) k, tt))

-- 12 and 22 of the empty file
pub empty_tests : (version : ℕ) (buffer : List ℕ) → Tests (starting version buffer).refusals (empty_conditions version buffer)
unfolding starting
empty_tests version buffer =
    (refl, says_unknown_version version, (refl, rw (length_no_rounds version) (says_short buffer 7), tt))

-- 12, 15 and 22 of the record writer
pub append_tests : (h : Header) (buffer : List ℕ) (used : ℕ) (round : Round)
    → Tests (appending h buffer used round).refusals (append_conditions h buffer used round)
unfolding appending
append_tests h buffer used round =
    let wide = says_wide_challenge (file_version (take used buffer)) round.challenge in
    let room = says_short buffer (used + record_length (width_in_use buffer used) h) in
    (refl, says_bad_in_use h buffer used, (refl, wide, (refl, room, tt)))

-- ---- after the rules of the sheet

-- a call on a sheet asks the sheet's conditions, then its own
pub on_sheet_tests : (s : List ℕ) {A : Type 0} (call : Call A) (conditions : List Condition) → Tests call.refusals conditions
    → Tests (on_sheet s call).refusals (load_conditions s ++ conditions)
on_sheet_tests s call conditions own = tests_append (load_rules s) call.refusals (load_conditions s) conditions (load_tests s) own

-- 2 to 12 of counting rounds
pub count_tests : (s f : List ℕ)
    → Tests (on_sheet s (counting (header_of s) f)).refusals (load_conditions s ++ file_conditions (header_of s) f)
count_tests s f = on_sheet_tests s (counting (header_of s) f) (file_conditions (header_of s) f) (file_tests (header_of s) f)

-- 2 to 13 of checking, giving and reading a round
pub check_tests : (s f : List ℕ) (k : ℕ)
    → Tests (on_sheet s (checking (header_of s) f k)).refusals (load_conditions s ++ round_conditions (header_of s) f k)
check_tests s f k = on_sheet_tests s (checking (header_of s) f k) (round_conditions (header_of s) f k) (round_tests (header_of s) f k)

-- ---- where no condition holds

-- a sheet of which no condition holds loads by our definitions, so that their laws say what it is
pub sheet_loads : (sheet : List ℕ) → NoneHold (load_conditions sheet) → load_refusal sheet ≡ 0
unfolding load_refusal
sheet_loads sheet none = none_zero (load_conditions sheet) _ none (given (load_rules sheet) (load_conditions sheet) (load_tests sheet))

-- and its values are Valid
pub sheet_valid : (sheet : List ℕ) → NoneHold (load_conditions sheet) → Valid (instance_of sheet)
sheet_valid sheet none = loads_valid sheet (sheet_loads sheet none)
