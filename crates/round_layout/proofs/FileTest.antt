-- The test of a round file: 12 exactly where it is no round file of the sheet.
-- Assumes nothing.
use Prim.Native.Nat.{ℕ, ◌≤◌}
use mathlib.Core.Path.{◌≡◌, sym, ap, ◌∙◌}
use mathlib.Core.Bool.{Bool, true, false, not, false≢true, not-eq-not}
use mathlib.Core.List.{List, []}
use native.Mathlib.Omega.{arith}
use lib.ListN.{length, take}
use borrow.Author.Tests.{not-true, not-false}
use Rattle.types.specs.declared.Header.{Header}
use Rattle.fields.specs.Mark.{has_mark}
use Rattle.rules.specs.Call.{number_of}
use Rattle.rules.specs.Rule.{lowest}
use Rattle.rules.specs.Says.{Says}
use Rattle.rules.proofs.Lowest.{clear_lowest, stop}
use Rattle.sigma.proofs.Comparison.{differ_false}
use Rattle.refusals.specs.declared.Refusal.{Refusal}
use Rattle.refusals.specs.Number.{number}
use Rattle.refusals.proofs.Positive.{number_positive}
use Rattle.formats.specs.Meaning.{IsRoundFile, IsVersion}
use Rattle.formats.specs.RoundCalls.{counting}
use Rattle.formats.specs.RoundFile.{challenge_width, count_field, file_version, record_start, round_mark, unknown_version}
use Rattle.formats.proofs.Files.{file_passes, length_round_mark, version_passes}
use Rattle.formats.proofs.Growing.{file_long}
use Rattle.formats.proofs.Loads.{begins}
use Rattle.instance.proofs.ShapeNumber.{mark_differs}

-- the test of a mark says that a list of at least three bytes begins with it
says_mark : (s mark : List ℕ) → length mark ≡ 3 → 3 ≤ length s → Says (has_mark s mark) (take 3 s ≡ mark)
says_mark s mark e h =
    let agree = differ_false 3 s mark in
    let same = begins 3 s mark e h in
    let differs = mark_differs s mark in
    record {
      sound = λ t. same.0 (agree.0 (differs ∙ ap not t));
      complete = λ p. not-false (has_mark s mark) (sym differs ∙ agree.1 (same.1 p));
    }

module _ (h : Header) (f : List ℕ) where
  -- a file that is no round file of the sheet is refused
  pub file_refused : ¬ IsRoundFile h f → 12 ≡ number_of (counting h f)
  unfolding counting number_of
  file_refused other = sym (stop 12 [] ((not-eq-not {b = true}).0 (λ e. other ((file_passes h f).0 e))))

  -- a round file of the sheet is not
  pub file_taken : IsRoundFile h f → 0 ≡ number_of (counting h f)
  unfolding counting number_of lowest
  file_taken r = rw ((file_passes h f).1 r)

  -- what it is refused with is 12
  pub file_number : (refusal : Refusal) → number refusal ≡ number_of (counting h f) → (number refusal ≡ 12) × (¬ IsRoundFile h f)
  file_number refusal tested =
      let other : ¬ IsRoundFile h f = λ r. omega (arith, tested, file_taken r, number_positive refusal) in
      (tested ∙ sym (file_refused other), other)

  -- a file that is not refused is a round file of the sheet
  pub file_clear : 0 ≡ number_of (counting h f) → IsRoundFile h f
  unfolding counting number_of
  file_clear tested = (file_passes h f).0 (clear_lowest (counting h f).refusals tt (sym tested)).0

  -- and has the seven bytes before the records
  pub seven_bytes : 0 ≡ number_of (counting h f) → 7 ≤ length f
  seven_bytes tested = file_long (file_clear tested)

  module _ {marked : Bool} (tested : marked ≡ has_mark f round_mark) (long : 3 ≤ length f) where
    -- a file that fails the test of the mark is refused
    pub unmarked_refused : not marked ≡ true → 12 ≡ number_of (counting h f)
    unmarked_refused e =
        let says = says_mark f round_mark length_round_mark long in
        file_refused (λ r. false≢true (sym (not-true marked e) ∙ tested ∙ says.complete r.mark))

    -- a file that passes it begins with the mark
    pub mark_found : not marked ≡ false → take 3 f ≡ round_mark
    mark_found e = (says_mark f round_mark length_round_mark long).sound (sym tested ∙ not-false marked e)

  module _ {version : ℕ} {unknown : Bool} (is_version : version ≡ file_version f) (tested : unknown ≡ unknown_version version) where
    -- a file of an unknown version is refused
    pub version_refused : unknown ≡ true → 12 ≡ number_of (counting h f)
    version_refused e =
        file_refused (λ r. false≢true (sym ((version_passes (file_version f)).1 r.version) ∙ rw (← is_version, ← tested) e))

    -- a file of any other has a version that is known
    pub version_found : unknown ≡ false → IsVersion (file_version f)
    version_found e = (version_passes (file_version f)).0 (rw (← is_version, ← tested) e)

  -- where the records of a file end that has as many as its count field says
  pub end_found : {width count end : ℕ} → width ≡ challenge_width f → count ≡ count_field f → end ≡ record_start width h count
      → end ≡ record_start (challenge_width f) h (count_field f)
  end_found is_width is_count is_end = rw (← is_width, ← is_count) is_end
