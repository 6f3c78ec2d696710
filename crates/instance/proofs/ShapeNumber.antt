-- The number of a sheet's shape, 2 to 9, test by test, and what holds where none is given.
-- Assumes nothing.
use Prim.Native.Nat.{ℕ, ◌≤◌, ◌<◌}
use mathlib.Core.Path.{◌≡◌, sym, ap, ◌∙◌}
use mathlib.Core.Bool.{true, false, not, not-not}
use mathlib.Core.Logic.{◌≢◌}
use mathlib.Core.List.{List, [], ◌∷◌, ◌++◌}
use lib.ListN.{length}
use borrow.Author.Tests.{lt-ltb, le-ltb, ne_eqb}
use Rattle.numbers.specs.Search.{any}
use Rattle.rules.specs.Rule.{◌when◌, lowest}
use Rattle.rules.proofs.Lowest.{pass, stop, clear_lowest, clear_append, lowest_clear, lowest_earlier, lowest_later_zero}
use Rattle.sigma.specs.Admission.{header_rules}
use Rattle.sigma.specs.Comparison.{first_difference, differ}
use Rattle.formats.specs.Sheet.{sheet_mark, version_of, header_of, sheet_length}
use Rattle.formats.specs.Load.{bad_start, bad_length, shape_rules}
use Rattle.formats.proofs.Loads.{version_passes, length_passes}
use Rattle.fields.specs.Mark.{has_mark}

-- a list's first places differ from a mark exactly if it does not begin with the mark
pub mark_differs : (s mark : List ℕ) → differ 3 s mark ≡ not (has_mark s mark)
unfolding has_mark any differ first_difference
mark_differs s mark = sym (not-not (differ 3 s mark))

-- a sheet that is refused with neither 2 nor 3
pub record Begun (s : List ℕ) : Type 0 where
  pub long : 20 ≤ length s
  pub marked : has_mark s sheet_mark ≡ true
  pub version : version_of s ≡ 1

module _ (s : List ℕ) where
  -- a sheet with under 20 bytes is refused with 2
  pub short_refused : length s < 20 → 2 ≡ lowest (shape_rules s)
  unfolding shape_rules bad_start
  short_refused short = sym (stop 2 _ (rw (lt-ltb (length s) 20 short)))

  -- and so is one with another mark
  pub mark_refused : 20 ≤ length s → has_mark s sheet_mark ≡ false → 2 ≡ lowest (shape_rules s)
  unfolding shape_rules bad_start
  mark_refused long other = sym (stop 2 _ (rw (le-ltb (length s) 20 long, mark_differs, other)))

  -- one of 20 bytes or more with the mark is not
  start_right : 20 ≤ length s → has_mark s sheet_mark ≡ true → bad_start s ≡ false
  unfolding bad_start
  start_right long marked = rw (le-ltb (length s) 20 long, mark_differs, marked)

  -- a sheet of another version is refused with 3
  pub version_refused : 20 ≤ length s → has_mark s sheet_mark ≡ true → version_of s ≢ 1 → 3 ≡ lowest (shape_rules s)
  unfolding shape_rules
  version_refused long marked other = sym (pass 2 _ (start_right long marked) ∙ stop 3 _ (ap not (ne_eqb _ 1 other)))

  -- behind 2 and 3 stand the numbers of the fixed fields and 9
  fields_left : Begun s → lowest (shape_rules s) ≡ lowest (header_rules (header_of s) ++ (9 when bad_length s) ∷ [])
  unfolding shape_rules
  fields_left b = pass 2 _ (start_right b.long b.marked) ∙ pass 3 _ ((version_passes s).1 b.version)

  -- a sheet whose fixed fields are refused is refused with their number
  pub header_refused : Begun s → 0 < lowest (header_rules (header_of s)) → lowest (header_rules (header_of s)) ≡ lowest (shape_rules s)
  header_refused b refused = sym (fields_left b ∙ lowest_earlier (header_rules (header_of s)) _ refused)

  -- behind fixed fields that are not refused stands 9
  length_left : Begun s → lowest (header_rules (header_of s)) ≡ 0 → lowest (shape_rules s) ≡ lowest ((9 when bad_length s) ∷ [])
  unfolding header_rules
  length_left b clear = fields_left b ∙ lowest_later_zero (header_rules (header_of s)) _ tt clear

  -- a sheet of another length is refused with 9
  pub length_refused : Begun s → lowest (header_rules (header_of s)) ≡ 0 → length s ≢ sheet_length (header_of s)
      → 9 ≡ lowest (shape_rules s)
  unfolding bad_length
  length_refused b clear other = sym (length_left b clear ∙ stop 9 _ (ap not (ne_eqb _ _ other)))

  -- any other has the shape of a sheet
  pub shape_right : Begun s → lowest (header_rules (header_of s)) ≡ 0 → length s ≡ sheet_length (header_of s)
      → 0 ≡ lowest (shape_rules s)
  shape_right b clear exact = sym (length_left b clear ∙ lowest_clear ((9 when bad_length s) ∷ []) ((length_passes s).1 exact, tt))

  -- where a sheet's shape is not refused, its fixed fields are not, and its length is what they give
  pub shape_passes : lowest (shape_rules s) ≡ 0
      → (lowest (header_rules (header_of s)) ≡ 0) × (length s ≡ sheet_length (header_of s))
  unfolding shape_rules header_rules
  shape_passes e =
      let clear = clear_lowest (shape_rules s) tt e in
      let (header, exact) = (clear_append (header_rules (header_of s)) ((9 when bad_length s) ∷ [])).0 clear.1.1 in
      (lowest_clear (header_rules (header_of s)) header, (length_passes s).0 exact.0)
