-- A sheet loads exactly where none of 01's conditions 2 to 11 holds, and loading answers its values, else zeros.
-- Assumes nothing.
use Prim.Native.Nat.{ℕ, ◌<◌, ◌≤◌}
use mathlib.Core.Path.{◌≡◌, refl, sym, ap, ◌∙◌}
use mathlib.Core.Logic.Iff
use mathlib.Core.Logic.{◌↔◌}
use mathlib.Core.Bool.{false, not}
use mathlib.Core.List.{List, [], ◌∷◌}
use native.Mathlib.Omega.{arith}
use lib.Dec.{eqb, ltb}
use lib.ListN.{length, get_or, take}
use lib.Seq.{length-take-le, ext_get_or, get_or-take}
use borrow.Author.Tests.{ltb-false, le-ltb}
use Rattle.types.specs.declared.Header.{Header}
use Rattle.encoding.specs.Text.{ascii}
use Rattle.lists.specs.Places.{zeros8}
use Rattle.rules.specs.Rule.{◌when◌, Clear}
use Rattle.rules.proofs.Lowest.{clear_append, lowest_zero}
use Rattle.rules.proofs.Says.{says_equal}
use Rattle.sigma.specs.Admission.{header_rules, element_rules}
use Rattle.sigma.specs.Comparison.{differ}
use Rattle.sigma.specs.Reads.{Agree}
use Rattle.sigma.specs.Valid.{Valid}
use Rattle.rules.proofs.Answer.{unless_refused_zero, unless_refused_positive}
use Rattle.sigma.proofs.Calculus.{says_passes, both_fail}
use Rattle.sigma.proofs.Comparison.{differ_false}
use Rattle.sigma.proofs.Valid.{clear_valid}
use Rattle.formats.specs.Load.{
  bad_start,
  bad_length,
  shape_rules,
  load_rules,
  load_refusal,
  no_header,
  load,
  load_entries,
}
use Rattle.formats.specs.Meaning.{Loads}
use Rattle.formats.specs.Ours.{loaded}
use Rattle.formats.specs.Sheet.{sheet_mark, version_of, header_of, sheet_length, zeros64, instance_of}
use Rattle.formats.proofs.Positive.{load_positive}

-- a list begins with n values exactly where it agrees with them in n places
pub begins : (n : ℕ) (s mark : List ℕ) → length mark ≡ n → n ≤ length s → Agree n s mark ↔ (take n s ≡ mark)
begins n s mark e h = (
  λ a.
      ext_get_or 0 (take n s) mark (length-take-le n s h ∙ sym e)
      (λ i b. let inside : i < n = omega (arith, length-take-le n s h) in get_or-take n s i 0 inside ∙ a i inside),
  λ p j b. sym (get_or-take n s j 0 b) ∙ ap (λ (l : List ℕ). get_or l j 0) p,
)

-- the mark has three bytes
pub length_sheet_mark : length sheet_mark ≡ 3
unfolding sheet_mark ascii
length_sheet_mark = refl

-- not 2: at least 20 bytes, the first three being the mark
pub start_passes : (s : List ℕ) → (bad_start s ≡ false) ↔ ((20 ≤ length s) × (take 3 s ≡ sheet_mark))
unfolding bad_start
start_passes s =
    let parts = both_fail (ltb (length s) 20) (differ 3 s sheet_mark) in
    let agree = differ_false 3 s sheet_mark in (
      λ e.
          let long = ltb-false (length s) 20 (parts.0 e).0 in
          (long, (begins 3 s sheet_mark length_sheet_mark (omega arith)).0 (agree.0 (parts.0 e).1)),
      λ (long, mark).
          parts.1 (le-ltb (length s) 20 long, agree.1 ((begins 3 s sheet_mark length_sheet_mark (omega arith)).1 mark)),
    )

-- not 3: the version is 1
pub version_passes : (s : List ℕ) → (not (eqb (version_of s) 1) ≡ false) ↔ (version_of s ≡ 1)
version_passes s = says_passes (says_equal (version_of s) 1)

-- not 9: the length is exactly what the header gives
pub length_passes : (s : List ℕ) → (bad_length s ≡ false) ↔ (length s ≡ sheet_length (header_of s))
unfolding bad_length
length_passes s = says_passes (says_equal (length s) (sheet_length (header_of s)))

-- a header gives at least the 20 bytes of the fixed fields
pub sheet_long : (h : Header) → 20 ≤ sheet_length h
unfolding sheet_length
sheet_long h = omega arith

module _ (s : List ℕ) where
  -- no rule of a sheet applies exactly where it loads
  pub load_clear : Clear (load_rules s) ↔ Loads s
  unfolding load_rules shape_rules instance_of
  load_clear =
      let whole = clear_append (shape_rules s) (element_rules (instance_of s)) in
      let shape = clear_append (header_rules (header_of s)) ((9 when bad_length s) ∷ []) in (
        λ c.
            let (start, (version, rest)) = (whole.0 c).0 in
            let values = (clear_valid (instance_of s)).0 ((shape.0 rest).0, (whole.0 c).1) in
            record {
              mark = ((start_passes s).0 start).1;
              version = (version_passes s).0 version;
              valid = values;
              exact = (length_passes s).0 (shape.0 rest).1.0;
            },
        λ l.
            let (header, elements) = (clear_valid (instance_of s)).1 l.valid in
            let long : 20 ≤ length s = omega (arith, l.exact, sheet_long (header_of s)) in
            let start = (start_passes s).1 (long, l.mark) in
            let rest = shape.1 (header, ((length_passes s).1 l.exact, tt)) in
            whole.1 ((start, ((version_passes s).1 l.version, rest)), elements),
      )

  -- a sheet's number is 0 exactly where it loads
  pub loads : (load_refusal s ≡ 0) ↔ Loads s
  unfolding load_refusal
  loads = Iff.trans (lowest_zero (load_rules s) (load_positive s)) load_clear

  -- a sheet that loads has Valid values
  pub loads_valid : load_refusal s ≡ 0 → Valid (instance_of s)
  loads_valid e = (loads.0 e).valid

  -- it has at most eight rows and columns
  pub loads_few : Loads s → ((header_of s).rows ≤ 8) × ((header_of s).columns ≤ 8)
  unfolding instance_of
  loads_few l = (l.valid.table.few_rows, l.valid.table.few_columns)

  -- loading answers the fixed fields and the statement
  pub load_given : load_refusal s ≡ 0
      → load s ≡ record { refusal = 0; header = (instance_of s).header; statement = (instance_of s).statement }
  unfolding load instance_of
  load_given e = simp (e, unless_refused_zero)

  -- and the entries
  pub entries_given : load_refusal s ≡ 0 → load_entries s ≡ (instance_of s).entries
  unfolding load_entries instance_of
  entries_given e = simp (e, unless_refused_zero)

  -- so the loader gives the sheet's values
  pub loaded_given : load_refusal s ≡ 0 → loaded s ≡ instance_of s
  loaded_given e =
      let answer = load_given e in
      λ j. record { header = (answer j).header; entries = entries_given e j; statement = (answer j).statement }

  -- a refused sheet gives its number and zeros
  pub load_refused : 0 < load_refusal s → load s ≡ record { refusal = load_refusal s; header = no_header; statement = zeros8 }
  unfolding load
  load_refused h =
      let other = unless_refused_positive (header_of s) no_header (load_refusal s) h in
      rw (other, unless_refused_positive _ zeros8 (load_refusal s) h)

  -- and no entries
  pub entries_refused : 0 < load_refusal s → load_entries s ≡ zeros64
  unfolding load_entries
  entries_refused h = unless_refused_positive _ zeros64 (load_refusal s) h
