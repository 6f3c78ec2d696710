-- The line on round 0 by the verdict on the values in its record.
-- Assumes nothing.
use Prim.Native.Nat.{ℕ, ◌+◌, ◌≤◌, ◌<◌}
use mathlib.Core.Path.{◌≡◌, sym, ap, ◌∙◌}
use mathlib.Core.List.{List}
use native.Mathlib.Omega.{arith}
use lib.ListN.{length}
use Rattle.types.specs.declared.Header.{Header}
use Rattle.types.specs.declared.Round.{Round}
use Rattle.types.specs.declared.Verdict.{Verdict}
use Rattle.types.specs.declared.Verdict.TheVariants.{Accepted, Rejected, Refused}
use Rattle.encoding.specs.Text.{ascii}
use Rattle.sigma.specs.Image.{image}
use Rattle.sigma.specs.Instance.{Instance, table_of}
use Rattle.sigma.specs.Judge.{judge_loaded}
use Rattle.sigma.specs.Round.{expected_image}
use Rattle.formats.specs.Meaning.{IsRoundFile}
use Rattle.formats.specs.RoundFile.{challenge_width, count_field, record_length, record_start, round_at}
use Rattle.formats.proofs.Part.{record_inside}
use Rattle.reasons.specs.Lines.{refused_line, rejected_line}
use Rattle.reasons.specs.Reason.{line_text, round_spot}
use Rattle.reasons.proofs.Line.{rejected_line_law}
use Rattle.round_lines.specs.Lines.{verdict_in}
use Rattle.diagnosis.specs.Judged.{judged_line}

-- the first record lies inside the file
pub first_inside : {h : Header} {f : List ℕ} → IsRoundFile h f → 0 < count_field f
    → 7 + record_length (challenge_width f) h ≤ length f
unfolding record_start
first_inside file some = omega (arith, record_inside file 0 some)

module _ (inst : Instance) (f : List ℕ) {v : Verdict} (is_verdict : v ≡ verdict_in inst f 0) where
  -- the values in it
  abbrev first : Round
  first = round_at (challenge_width f) inst.header f 7

  -- the line of a verdict
  abbrev line_of : Verdict → List ℕ
  line_of w =
      line_text w (round_spot inst.header f) (image (table_of inst) first.response)
      (expected_image inst first.commitment first.challenge)

  -- the verdict is that on these values
  judged_first : v ≡ judge_loaded inst first
  unfolding verdict_in record_start
  judged_first = is_verdict ∙ ap (λ (at : ℕ). judge_loaded inst (round_at (challenge_width f) inst.header f at)) (omega arith)

  -- the line is that of the verdict
  judged_by : judged_line inst f ≡ line_of v
  unfolding judged_line
  judged_by = sym (ap line_of judged_first)

  -- an accepted round
  pub accepted_told : v ≡ Accepted → judged_line inst f ≡ ascii "accepted\n"
  unfolding line_text
  accepted_told e = judged_by ∙ ap line_of e

  -- a rejected one
  pub rejected_told : {round : Round} → round ≡ first → (mask : ℕ) → v ≡ Rejected mask
      → judged_line inst f
      ≡ rejected_line mask (image (table_of inst) round.response) (expected_image inst round.commitment round.challenge)
  rejected_told is_round mask e = rw is_round (judged_by ∙ ap line_of e ∙ rejected_line_law mask _ _ _)

  -- a refused one
  pub refused_told : (n : ℕ) → v ≡ Refused n → judged_line inst f ≡ refused_line n (round_spot inst.header f n)
  unfolding line_text
  refused_told n e = judged_by ∙ ap line_of e
