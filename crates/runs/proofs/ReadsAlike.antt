-- The converter of round files (02, card 7): what it leaves of a file reads as the original does.
-- Assumes nothing.
use Prim.Native.Nat.{ℕ}
use mathlib.Core.Path.{◌≡◌, sym, ap, ap₂, ◌∙◌}
use mathlib.Core.Bool.{Bool, not, ◌||◌}
use mathlib.Core.List.{List, ◌++◌, flatten}
use Rattle.types.specs.declared.Verdict.{Verdict}
use Rattle.encoding.specs.Text.{ascii}
use Rattle.lists.proofs.Places.{tabulate_agree}
use Rattle.numbers.proofs.Search.{any_agree}
use Rattle.formats.specs.Convert.{converted}
use Rattle.formats.specs.Ours.{file_calls}
use Rattle.formats.specs.RoundCalls.{count_rounds, counting, fetch_round}
use Rattle.formats.specs.RoundFile.{bad_file}
use Rattle.formats.specs.Sheet.{header_of}
use Rattle.formats.proofs.ConvertCalls.{convert_count, convert_fetch, convert_puts, convert_runs}
use Rattle.formats.proofs.Converting.{converted_file}
use Rattle.formats.proofs.Files.{file_passes}
use Rattle.formats.proofs.Writing.{puts_front}
use Rattle.sigma.specs.Answer.{is_accepted}
use Rattle.runs.specs.Level.{level_of, strong_enough}
use Rattle.runs.specs.Marker.{
  fails_at,
  mark_refusal,
  mark_rules,
  marker_calls,
  marker_text,
  result_line,
  round_line,
  round_lines,
  verdict_line,
  verdict_on,
  word_line,
}
use Rattle.runs.specs.Ours.{run_calls}
use Rattle.runs.specs.ReadsAlike.{LosesNothing, ReadsAlike}

-- two files of a sheet that are both refused or both not, and are counted and read alike
module _ (sheet f g : List ℕ) (files : bad_file (header_of sheet) g ≡ bad_file (header_of sheet) f)
    (count : count_rounds sheet g ≡ count_rounds sheet f) (values : (k : ℕ) → fetch_round sheet g k ≡ fetch_round sheet f k) where
  -- the verdicts on their rounds are the same
  same_verdict : (k : ℕ) → verdict_on sheet g k ≡ verdict_on sheet f k
  unfolding verdict_on
  same_verdict k = rw (values k)

  -- the lines of their rounds are
  same_lines : (w n : ℕ) → round_lines sheet g w n ≡ round_lines sheet f w n
  unfolding round_lines round_line fails_at
  same_lines w n =
      ap₂ (λ (lines : List (List ℕ)) (failed : Bool).
      word_line (ascii "rounds") n ++ flatten lines ++ result_line (failed || not (strong_enough (header_of sheet).challenges n w)))
      (tabulate_agree n _ _ (λ k below. ap (verdict_line k) (same_verdict k)))
      (any_agree n _ _ (λ k below. ap (λ (verdict : Verdict). not (is_accepted verdict)) (same_verdict k)))

  -- and the text is
  same_text : (level : List ℕ) → marker_text sheet g level ≡ marker_text sheet f level
  unfolding marker_text mark_refusal mark_rules counting
  same_text level = rw (files, count, same_lines (level_of level) (count_rounds sheet f).count)

  pub reads_alike : ReadsAlike file_calls run_calls marker_calls sheet f g
  unfolding verdict_on
  reads_alike = record { count = count; values = values; verdicts = same_verdict; text = same_text }

-- a file that converts
pub loses_nothing : LosesNothing file_calls run_calls marker_calls
loses_nothing = record {
  same = λ sheet f buffer b e.
      let h = header_of sheet in
      let (l, r, narrow, fits) = (convert_runs sheet f buffer).0 e in
      let files = (file_passes h (converted h f)).1 (converted_file h f r) ∙ sym ((file_passes h f).1 r) in
      rw (puts_front (convert_puts sheet f buffer e))
      (reads_alike sheet f (converted h f) files (convert_count sheet f l r) (convert_fetch sheet f l r b narrow));
}
