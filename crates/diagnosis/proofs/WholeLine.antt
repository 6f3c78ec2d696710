-- The whole line (02, card 1) by what loading the sheet and checking the file answer.
-- Assumes nothing.
use Prim.Native.Nat.{ℕ, ◌≤◌, ◌<◌}
use mathlib.Core.Path.{◌≡◌, refl, sym, ap, ◌∙◌}
use mathlib.Core.List.{List, [], ◌∷◌}
use mathlib.Core.Logic.{◌≢◌}
use native.Mathlib.Omega.{arith}
use borrow.Author.Tests.{le-ltb, lt-ltb}
use Rattle.types.specs.declared.Round.{Round}
use Rattle.types.specs.declared.Verdict.{Verdict}
use Rattle.types.specs.declared.Verdict.TheVariants.{Accepted, Rejected, Refused}
use Rattle.rules.specs.Call.{answer, number_of}
use Rattle.rules.proofs.Call.{answer_number as call_number, number_given}
use Rattle.rules.proofs.Explains.{explain, explains_given, known, rising_first}
use Rattle.sigma.specs.Image.{image}
use Rattle.sigma.specs.Instance.{Instance, table_of}
use Rattle.sigma.specs.Judge.{judge_loaded}
use Rattle.sigma.specs.Round.{expected_image}
use Rattle.formats.specs.Load.{load_refusal}
use Rattle.formats.specs.Meaning.{IsRoundFile}
use Rattle.formats.specs.Refusals.{round_conditions}
use Rattle.formats.specs.RoundCalls.{check_round, checking}
use Rattle.formats.specs.RoundFile.{count_field}
use Rattle.formats.specs.Sheet.{header_of, instance_of}
use Rattle.formats.proofs.Files.{check_runs}
use Rattle.formats.proofs.Loads.{loads}
use Rattle.formats.proofs.OnSheet.{on_sheet_refused}
use Rattle.formats.proofs.Refusals.{round_tests}
use Rattle.runs.specs.Marker.{verdict_on}
use Rattle.runs.proofs.Loaded.{judge_loaded_law}
use Rattle.runs.proofs.Marker.{round_refusal}
use Rattle.instance.proofs.SheetLoads.{loaded_header, on_fields}
use Rattle.refusals.specs.declared.Refusal.{Refusal}
use Rattle.refusals.specs.Number.{number}
use Rattle.refusals.proofs.Positive.{number_positive}
use Rattle.reasons.specs.declared.Spot.{Spot}
use Rattle.reasons.specs.Lines.{refused_line}
use Rattle.reasons.specs.Ours.{first_round}
use Rattle.reasons.specs.Reason.{file_spot, first_verdict, line_text, reason_line, round_spot, sheet_spot, spot_of}
use Rattle.reasons.proofs.Line.{checked_judged, checked_refused, line_refused}
use Rattle.reasons.proofs.RoundSpots.{first_record}
use Rattle.diagnosis.specs.Judged.{judged_line}
use Rattle.spots.proofs.RefusedSheet.{refused_with_law}

-- ---- the spot of a number

module _ (s f : List ℕ) (x y n : ℕ) where
  -- below 12 it is the sheet's
  sheet_number : n < 12 → spot_of s x f y n ≡ sheet_spot s x n
  unfolding spot_of
  sheet_number low = rw (lt-ltb n 12 low)

  -- at 12 and 13 it is the file's
  file_number : 12 ≤ n → n < 14 → spot_of s x f y n ≡ file_spot f y n
  unfolding spot_of
  file_number low high = rw (le-ltb n 12 low, lt-ltb n 14 high)

  -- from 14 on it is the round's
  round_number : 14 ≤ n → spot_of s x f y n ≡ round_spot (header_of s) f n
  unfolding spot_of
  round_number low = rw (le-ltb n 12 (omega arith), le-ltb n 14 low)

-- spots that agree where a verdict is a refusal give one line
spots_agree : (v : Verdict) (spots spots' : ℕ → Spot) (left right : List ℕ) → ((n : ℕ) → v ≡ Refused n → spots n ≡ spots' n)
    → line_text v spots left right ≡ line_text v spots' left right
unfolding line_text
spots_agree Accepted spots spots' left right same = refl
spots_agree (Rejected row) spots spots' left right same = refl
spots_agree (Refused n) spots spots' left right same = ap (refused_line n) (same n refl)

-- ---- the line

module _ (s f : List ℕ) (x y : ℕ) (passed : check_round s f 0 ≡ 0) where
  -- a sheet whose file reads loads
  check_loads : load_refusal s ≡ 0
  check_loads = (loads s).1 ((check_runs s f 0).0 passed).0

  -- round 0 is refused from 14 on
  round_high : (n : ℕ) → first_verdict s f ≡ Refused n → 13 < n
  unfolding verdict_on
  round_high n refused =
      rising_first 13 (14 ∷ 15 ∷ 16 ∷ []) (omega arith) n
      (round_refusal s f check_loads 0 n (sym (checked_judged s f passed) ∙ refused))

  -- the line on it is that on the values in its record
  record_line : reason_line s x f y ≡ judged_line (instance_of s) f
  unfolding reason_line judged_line instance_of
  record_line =
      let inst = instance_of s in
      let line : Verdict → Round → List ℕ = λ v round.
      line_text v (round_spot (header_of s) f) (image (table_of inst) round.response)
      (expected_image inst round.commitment round.challenge) in
      spots_agree (first_verdict s f) (spot_of s x f y) (round_spot (header_of s) f) _ _
      (λ n refused. round_number s f x y n (round_high n refused))
      ∙ ap (λ (v : Verdict). line v (first_round s f)) (checked_judged s f passed ∙ judge_loaded_law s check_loads (first_round s f))
      ∙ ap (λ (round : Round). line (judge_loaded inst round) round) (first_record s f passed)

-- a refusal of the check
check_line : (s f : List ℕ) (x y n : ℕ) → check_round s f 0 ≡ n → 0 < n → {spot : Spot} → spot_of s x f y n ≡ spot
    → reason_line s x f y ≡ refused_line n spot
check_line s f x y n same some told =
    line_refused s f x y n (checked_refused s f (omega arith) ∙ ap Refused same) ∙ ap (refused_line n) told

module _ (s f : List ℕ) where
  -- a refused sheet
  pub sheet_line : (refusal : Refusal) → number refusal ≡ load_refusal s → (x y : ℕ)
      → reason_line s x f y ≡ refused_line (number refusal) (sheet_spot s x (number refusal))
  unfolding check_round checking
  sheet_line refusal same x y =
      let n = number refusal in
      let some = number_positive refusal in
      let check = on_sheet_refused s (checking (header_of s) f 0) (omega (arith, same, some)) ∙ sym same in
      check_line s f x y n check some (sheet_number s f x y n (refused_with_law s n some same).high)

  module _ (passed : 0 ≡ load_refusal s) {inst : Instance} (values : inst ≡ instance_of s) {n : ℕ}
      (is_check : n ≡ answer (checking inst.header f 0)) where
    -- the check's number is that of the sheet and the file
    checks : n ≡ check_round s f 0
    unfolding check_round
    checks = on_fields s passed values (λ h. checking h f 0) is_check

    -- it is 0, 12 or 13
    file_range : n ≢ 0 → (11 < n) × (n < 14)
    unfolding checking
    file_range some =
        let h = inst.header in
        let call = checking h f 0 in
        let number : n ≡ number_of call = is_check ∙ call_number call (λ k. k) refl (λ k. refl) in
        let Range : ℕ → Type 0 = λ k. (11 < k) × (k < 14) in
        let range =
        explains_given Range (λ k. ⊥) (round_conditions h f 0) (number_of call)
        (explain (known Range 12 (omega arith)) λ file. explain (known Range 13 (omega arith)) λ number. tt)
        (number_given call (round_conditions h f 0) (round_tests h f 0)) (omega (arith, number)) in
        omega (arith, number, range)

    -- a refused file
    pub file_line : n ≢ 0 → (x y : ℕ) → reason_line s x f y ≡ refused_line n (file_spot f y n)
    file_line some x y =
        let (low, high) = file_range some in
        check_line s f x y n (sym checks) (omega arith) (file_number s f x y n low high)

    module _ (reads : n ≡ 0) where
      -- the file is one of the sheet's and has a round
      pub file_read : IsRoundFile inst.header f × (0 < count_field f)
      file_read =
          let (sheet, file, some) = (check_runs s f 0).0 (sym checks ∙ reads) in
          rw (loaded_header s passed values) (file, some)

      -- the line on round 0
      pub judged_line_law : (x y : ℕ) → reason_line s x f y ≡ judged_line inst f
      judged_line_law x y = rw values (record_line s f x y (sym checks ∙ reads))
