-- The one line by its verdict: a refusal is told with its number, and what is not refused by the verdict on round 0.
-- Assumes nothing.
use Prim.Native.Nat.{ℕ, ◌<◌}
use mathlib.Core.Path.{◌≡◌, refl, sym, ap, ap₂, ◌∙◌}
use mathlib.Core.List.{List, ◌++◌, append_assoc, flatten, map}
use native.Mathlib.Decide.{dec_lt}
use native.Mathlib.Omega.{arith}
use lib.ListN.{get_or, length}
use Rattle.types.specs.declared.Verdict.{Verdict}
use Rattle.types.specs.declared.Verdict.TheVariants.{Accepted, Rejected, Refused}
use Rattle.encoding.specs.Text.{ascii, decimal}
use Rattle.lists.specs.Member.{Member}
use Rattle.lists.proofs.Words.{words_agree}
use Rattle.rules.specs.Call.{number_of}
use Rattle.rules.specs.Condition.{Given}
use Rattle.rules.specs.Rule.{Rule, lowest}
use Rattle.rules.proofs.Condition.{given, tests_append}
use Rattle.rules.proofs.Lowest.{clear_append, clear_lowest, lowest_earlier, lowest_later}
use Rattle.sigma.specs.Answer.{judged, outcome, rows_of}
use Rattle.sigma.specs.Image.{image}
use Rattle.sigma.specs.Instance.{table_of}
use Rattle.sigma.specs.Judge.{judging}
use Rattle.sigma.specs.Refusals.{judge_conditions}
use Rattle.sigma.specs.Round.{expected_image}
use Rattle.sigma.proofs.Answer.{judged_positive, judged_zero}
use Rattle.sigma.proofs.Refusals.{judge_tests}
use Rattle.sigma.proofs.Values.{expected_image_at, image_at}
use Rattle.formats.specs.Load.{load_rules}
use Rattle.formats.specs.Refusals.{load_conditions, round_conditions}
use Rattle.formats.specs.RoundCalls.{check_round, checking}
use Rattle.formats.specs.Sheet.{header_of, instance_of}
use Rattle.formats.proofs.Files.{check_number}
use Rattle.formats.proofs.Positive.{check_positive}
use Rattle.formats.proofs.Refusals.{load_tests, round_tests}
use Rattle.runs.specs.Calls.{judge_round}
use Rattle.runs.proofs.Numbers.{judge_lowest}
use Rattle.reasons.specs.declared.Spot.{Spot}
use Rattle.reasons.specs.declared.Spot.TheVariants.{At, Length}
use Rattle.reasons.specs.Ours.{first_round, reason_conditions}
use Rattle.reasons.specs.Reason.{first_verdict, line_text, reason_line, reason_number, reason_text, row_text, spot_of, spot_text}
use Rattle.reasons.specs.Lines.{refused_line, rejected_line}
use Rattle.reasons.specs.ReasonsTrue.{told_row}
use Rattle.reasons.proofs.Named.{spot}

-- a verdict with a number above 0 is the refusal with that number
refused_verdict : (v : Verdict) → 0 < (outcome v).number → v ≡ Refused (outcome v).number
unfolding outcome
refused_verdict Accepted some = absurd (omega arith)
refused_verdict (Rejected row) some = absurd (omega arith)
refused_verdict (Refused n) some = refl

-- the pieces of a line, put together in two ways
length_words : (a b c d e g : List ℕ) → a ++ b ++ c ++ (d ++ e) ++ g ≡ a ++ b ++ (c ++ d) ++ e ++ g
length_words a b c d e g = simp append_assoc

-- the line of a rejected round, by its parts
pub rejected_line_law : (mask : ℕ) (spots : ℕ → Spot) (left right : List ℕ)
    → line_text (Rejected mask) spots left right ≡ rejected_line mask left right
unfolding line_text
rejected_line_law mask spots left right = refl

module _ (s f : List ℕ) where
  -- ---- the number

  -- the refusals of judging round 0
  abbrev round_judged : List Rule
  round_judged = (judging (instance_of s) (first_round s f)).refusals

  -- where the check refuses, its number is told
  pub checked_refused : 0 < check_round s f 0 → first_verdict s f ≡ Refused (check_round s f 0)
  unfolding first_verdict judged
  checked_refused refused = judged_positive (check_round s f 0) (judge_round s (first_round s f)) refused

  -- where it does not, round 0 is judged
  pub checked_judged : check_round s f 0 ≡ 0 → first_verdict s f ≡ judge_round s (first_round s f)
  unfolding first_verdict judged
  checked_judged passed = rw passed (judged_zero (judge_round s (first_round s f)))

  -- the number is that of the lowest rule of the sheet, the file and round 0
  number_lowest : reason_number s f ≡ lowest (load_rules s ++ ((checking (header_of s) f 0).refusals ++ round_judged))
  unfolding reason_number outcome number_of
  number_lowest =
      let load = load_rules s in
      let file = (checking (header_of s) f 0).refusals in
      let number = check_number s f 0 in
      elim (dec_lt 0 (check_round s f 0)) [
        | yes refused ↦
            ap (λ (v : Verdict). (outcome v).number) (checked_refused refused) ∙ number
            ∙ sym (ap lowest (sym (append_assoc load file round_judged)) ∙ lowest_earlier (load ++ file) round_judged (rw number at refused))
        | no passed ↦
            let none : check_round s f 0 ≡ 0 = omega arith in
            let (clear, clear') = (clear_append load file).0 (clear_lowest (load ++ file) (check_positive s f 0) (sym number ∙ none)) in
            ap (λ (v : Verdict). (outcome v).number) (checked_judged none)
            ∙ judge_lowest s (first_round s f) ∙ lowest_later load round_judged clear
            ∙ sym (lowest_later load (file ++ round_judged) clear ∙ lowest_later file round_judged clear')
      ]

  -- and so that of the first condition that holds
  pub number_given : Given (reason_conditions s f) (reason_number s f)
  number_given =
      let h = header_of s in
      let round = first_round s f in
      let conditions = round_conditions h f 0 ++ judge_conditions (instance_of s) round in
      rw number_lowest
      (given _ (reason_conditions s f)
      (tests_append (load_rules s) ((checking h f 0).refusals ++ round_judged) (load_conditions s) conditions (load_tests s)
      (tests_append (checking h f 0).refusals round_judged (round_conditions h f 0) (judge_conditions (instance_of s) round) (round_tests h f 0)
      (judge_tests (instance_of s) round))))

  -- ---- the line

  -- the line of a verdict, with lengths that are handed in
  abbrev line_of : ℕ → ℕ → Verdict → List ℕ
  line_of a b v =
      line_text v (spot_of s a f b) (image (table_of (instance_of s)) (first_round s f).response)
      (expected_image (instance_of s) (first_round s f).commitment (first_round s f).challenge)

  -- a refusal, with lengths that are handed in
  pub line_refused : (a b n : ℕ) → first_verdict s f ≡ Refused n → reason_line s a f b ≡ refused_line n (spot_of s a f b n)
  unfolding reason_line line_text
  line_refused a b n e = ap (line_of a b) e

  -- a refusal
  text_refused : 0 < reason_number s f → reason_text s f ≡ refused_line (reason_number s f) (spot s f (reason_number s f))
  unfolding reason_text reason_number
  text_refused some = line_refused (length s) (length f) _ (refused_verdict (first_verdict s f) some)

  -- with an offset
  pub text_offset : (o : ℕ) → 0 < reason_number s f → spot s f (reason_number s f) ≡ At o
      → reason_text s f ≡ ascii "refused " ++ decimal (reason_number s f) ++ ascii " " ++ decimal o ++ ascii "\n"
  unfolding spot_text
  text_offset o some told = text_refused some ∙ ap (refused_line (reason_number s f)) told

  -- with a length
  pub text_length : (l : ℕ) → 0 < reason_number s f → spot s f (reason_number s f) ≡ Length l
      → reason_text s f ≡ ascii "refused " ++ decimal (reason_number s f) ++ ascii " length " ++ decimal l ++ ascii "\n"
  unfolding spot_text ascii
  text_length l some told =
      text_refused some ∙ ap (refused_line (reason_number s f)) told
      ∙ length_words (ascii "refused ") (decimal (reason_number s f)) (ascii " ") (ascii "length ") (decimal l) (ascii "\n")

  -- an accepted round
  pub text_accepted : first_verdict s f ≡ Accepted → reason_text s f ≡ ascii "accepted\n"
  unfolding reason_text reason_line line_text
  text_accepted e = ap (line_of (length s) (length f)) e

  -- a rejected one
  pub text_rejected : (mask : ℕ) → first_verdict s f ≡ Rejected mask
      → ((row : ℕ) → Member row (rows_of mask) → row < (instance_of s).header.rows)
      → reason_text s f ≡ ascii "rejected" ++ flatten (map (told_row s (first_round s f)) (rows_of mask)) ++ ascii "\n"
  unfolding reason_text reason_line row_text instance_of
  text_rejected mask e inside =
      let left = image (table_of (instance_of s)) (first_round s f).response in
      let right = expected_image (instance_of s) (first_round s f).commitment (first_round s f).challenge in
      ap (line_of (length s) (length f)) e ∙ rejected_line_law mask (spot s f) left right
      ∙ ap (λ (rows : List ℕ). ascii "rejected" ++ rows ++ ascii "\n")
      (words_agree (row_text left right) (told_row s (first_round s f)) (rows_of mask) (λ row m.
      ap₂ (λ (a b : ℕ). ascii " " ++ decimal row ++ ascii " " ++ decimal a ++ ascii " " ++ decimal b)
      (image_at (table_of (instance_of s)) (first_round s f).response row (inside row m))
      (expected_image_at (instance_of s) (first_round s f).commitment (first_round s f).challenge row (inside row m))))
