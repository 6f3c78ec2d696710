-- The one line of the marker (01, "The marker's lines"; 02, card 3): which number a refused sheet, file or level gives, and what
-- the text is then.
-- Assumes nothing.
use Prim.Native.Nat.{ℕ, ◌<◌, ◌≤◌}
use mathlib.Core.Path.{◌≡◌, refl, sym, ap, ◌∙◌}
use mathlib.Core.Logic.{◌⊎◌, inl, inr}
use mathlib.Core.Bool.{Bool, true, false, ◌&&◌}
use mathlib.Core.List.{List, [], ◌∷◌, ◌++◌}
use native.Mathlib.Decide.{dec_lt}
use native.Mathlib.Omega.{arith}
use lib.Dec.{T, ltb}
use borrow.Author.Tests.{ltb-true, ne_eqb}
use Rattle.lists.specs.Member.{Member}
use Rattle.encoding.specs.Text.{ascii, digits, decimal}
use Rattle.rules.specs.Call.{number_of}
use Rattle.rules.specs.Condition.{◌if◌, Tests}
use Rattle.rules.specs.Refuses.{condition_numbers}
use Rattle.rules.specs.Rule.{◌when◌, lowest}
use Rattle.rules.proofs.Condition.{given, tests_append}
use Rattle.rules.proofs.Lowest.{lowest_clear, lowest_earlier, lowest_later_zero, pass, stop}
use Rattle.rules.proofs.Refuses.{given_among}
use Rattle.formats.specs.Load.{load_rules, load_refusal, on_sheet}
use Rattle.formats.specs.Refusals.{file_conditions, load_conditions}
use Rattle.formats.specs.RoundCalls.{count_rounds, counting}
use Rattle.formats.specs.RoundFile.{bad_file}
use Rattle.formats.specs.Sheet.{header_of}
use Rattle.formats.proofs.Files.{count_number}
use Rattle.formats.proofs.Positive.{count_positive, load_positive}
use Rattle.formats.proofs.Refusals.{count_tests, load_tests}
use Rattle.rules.proofs.Answer.{unless_refused_positive}
use Rattle.runs.specs.Level.{bad_level, mark_conditions, Refusal25}
use Rattle.runs.specs.Marker.{newline, word_line, mark_rules, mark_refusal, refused_word, marker_text}
use Rattle.runs.specs.RunRefusals.{OneLine}
use Rattle.runs.proofs.Level.{says_bad_level}

-- every number of a list is below the bound
abbrev all_below : ℕ → List ℕ → Bool
all_below bound [] = true
all_below bound (n ∷ ns) = ltb n bound && all_below bound ns

-- so is a member of such a list
pub member_below : (bound n : ℕ) (ns : List ℕ) → T (all_below bound ns) → Member n ns → n < bound
member_below bound n [] all m = absurd m
member_below bound n (k ∷ ns) all m =
    first (ltb k bound) (ltb-true k bound) (λ rest later. member_below bound n ns rest later) all m
  where
    first : (b : Bool) → (b ≡ true → k < bound) → (T (all_below bound ns) → Member n ns → n < bound) → T (b && all_below bound ns)
        → (n ≡ k) ⊎ Member n ns → n < bound
    first true small later all (inl e) = omega (arith, small refl)
    first true small later all (inr m) = later all m
    first false small later all m = absurd all

module _ (sheet : List ℕ) where
  -- a sheet is refused with a number up to 11
  pub sheet_low : load_refusal sheet ≤ 11
  unfolding load_refusal condition_numbers
  sheet_low = elim (given_among (load_conditions sheet) _ (given (load_rules sheet) (load_conditions sheet) (load_tests sheet))) [
    | inl none ↦ omega arith
    | inr m ↦ omega (arith, member_below 12 (lowest (load_rules sheet)) (condition_numbers (load_conditions sheet)) tt m)
  ]

  -- so its line has the sheet's word
  sheet_word : refused_word (load_refusal sheet) ≡ ascii "sheet"
  unfolding refused_word
  sheet_word =
      let low = sheet_low in
      rw (
        ne_eqb (load_refusal sheet) 25 (λ (e : load_refusal sheet ≡ 25). omega arith),
        ne_eqb (load_refusal sheet) 12 (λ (e : load_refusal sheet ≡ 12). omega arith),
      )

module _ (sheet f : List ℕ) where
  -- of a sheet that loads, a file is refused with 12 and no other number
  pub file_refusal : load_refusal sheet ≡ 0 → 0 < (count_rounds sheet f).refusal → (count_rounds sheet f).refusal ≡ 12
  unfolding load_refusal counting lowest number_of
  file_refusal e h =
      let same =
      count_number sheet f ∙ lowest_later_zero (load_rules sheet) (counting (header_of sheet) f).refusals (load_positive sheet) e in
      same ∙ twelve (bad_file (header_of sheet) f) (rw same at h)
    where
      twelve : (b : Bool) → 0 < lowest ((12 when b) ∷ []) → lowest ((12 when b) ∷ []) ≡ 12
      twelve true some = refl
      twelve false some = absurd (omega arith)

  module _ (level : List ℕ) where
    -- ---- the number

    -- the number of a refused sheet or file
    early_number : 0 < (count_rounds sheet f).refusal → mark_refusal sheet f level ≡ (count_rounds sheet f).refusal
    unfolding mark_refusal mark_rules number_of
    early_number some =
        lowest_earlier (on_sheet sheet (counting (header_of sheet) f)).refusals _ (rw (count_number sheet f) at some)
        ∙ sym (count_number sheet f)

    -- that of a refused sheet
    sheet_number : 0 < load_refusal sheet → mark_refusal sheet f level ≡ load_refusal sheet
    unfolding load_refusal number_of
    sheet_number some =
        let same = count_number sheet f ∙ lowest_earlier (load_rules sheet) (counting (header_of sheet) f).refusals some in
        early_number (rw same some) ∙ same

    -- else that of the level
    late_number : (count_rounds sheet f).refusal ≡ 0 → mark_refusal sheet f level ≡ lowest ((25 when bad_level level) ∷ [])
    unfolding mark_refusal mark_rules number_of
    late_number e =
        lowest_later_zero (on_sheet sheet (counting (header_of sheet) f)).refusals _ (count_positive sheet f)
        (sym (count_number sheet f) ∙ e)

    -- nothing is refused
    pub none_refused : (count_rounds sheet f).refusal ≡ 0 → bad_level level ≡ false → mark_refusal sheet f level ≡ 0
    none_refused e good = late_number e ∙ pass 25 [] good ∙ lowest_clear [] tt

    -- ---- the line

    -- a number above 0 gives the one line with its word
    numbered_line : (number : ℕ) → 0 < number → mark_refusal sheet f level ≡ number
        → marker_text sheet f level ≡ word_line (refused_word number) number
    unfolding marker_text
    numbered_line number some e =
        unless_refused_positive _ _ (mark_refusal sheet f level) (rw e some) ∙ ap (λ (n : ℕ). word_line (refused_word n) n) e

    -- a refused sheet gives the one line `sheet N`
    pub sheet_line : 0 < load_refusal sheet → marker_text sheet f level ≡ word_line (ascii "sheet") (load_refusal sheet)
    sheet_line some =
        numbered_line (load_refusal sheet) some (sheet_number some)
        ∙ ap (λ (word : List ℕ). word_line word (load_refusal sheet)) (sheet_word sheet)

    -- a refused file of a sheet that loads gives the one line `file 12`
    pub file_line : load_refusal sheet ≡ 0 → 0 < (count_rounds sheet f).refusal
        → marker_text sheet f level ≡ word_line (ascii "file") 12
    unfolding refused_word
    file_line e h = numbered_line 12 (omega arith) (early_number h ∙ file_refusal e h)

    -- a refused level beside a file that reads gives the one line `level 25`
    pub level_line : (count_rounds sheet f).refusal ≡ 0 → bad_level level ≡ true
        → marker_text sheet f level ≡ word_line (ascii "level") 25
    unfolding refused_word
    level_line e bad = numbered_line 25 (omega arith) (late_number e ∙ stop 25 [] bad)

    -- ---- what demand 1 asks

    -- the marker's rules test the sheet's conditions, then the file's and the level's
    pub mark_tests : Tests (mark_rules sheet f level) (load_conditions sheet ++ mark_conditions (header_of sheet) f level)
    unfolding mark_rules
    mark_tests =
        tests_append (on_sheet sheet (counting (header_of sheet) f)).refusals ((25 when bad_level level) ∷ [])
        (load_conditions sheet ++ file_conditions (header_of sheet) f) ((25 if Refusal25 level) ∷ []) (count_tests sheet f)
        (refl, says_bad_level level, tt)

    -- a level that is refused gives 25 and its line
    level_one_line : (count_rounds sheet f).refusal ≡ 0 → 0 < mark_refusal sheet f level → (bad : Bool) → bad_level level ≡ bad
        → (mark_refusal sheet f level ≡ 25) × (marker_text sheet f level ≡ word_line (ascii "level") 25)
    level_one_line e some true is_bad = (late_number e ∙ stop 25 [] is_bad, level_line e is_bad)
    level_one_line e some false good = let none = none_refused e good in absurd (omega arith)

    -- the text of what is refused is one line
    pub one_line : 0 < mark_refusal sheet f level → OneLine (mark_refusal sheet f level) (marker_text sheet f level)
    unfolding word_line newline ascii decimal digits
    one_line some = elim (dec_lt 0 (load_refusal sheet)) [
      | yes refused ↦
          let low = sheet_low sheet in
          let same = sheet_number refused in
          inl (omega arith, rw same (sheet_line refused))
      | no loaded ↦ elim (dec_lt 0 (count_rounds sheet f).refusal) [
        | yes refused ↦
            let loads : load_refusal sheet ≡ 0 = omega arith in
            inr (inl (early_number refused ∙ file_refusal loads refused, file_line loads refused))
        | no reads ↦ inr (inr (level_one_line (omega arith) some (bad_level level) refl))
      ]
    ]
