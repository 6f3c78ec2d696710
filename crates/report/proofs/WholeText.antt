-- The whole text (01, "The marker's lines"; 02, card 3) by what loading the sheet, counting the file and testing the level answer.
-- Assumes nothing.
use Prim.Native.Nat.{ℕ, ◌≤◌, ◌<◌}
use mathlib.Core.Path.{◌≡◌, refl, sym, ap, ◌∙◌}
use mathlib.Core.Bool.{Bool, false, not, ◌||◌}
use mathlib.Core.List.{List, [], ◌∷◌, ◌++◌, flatten}
use native.Mathlib.Omega.{arith}
use Rattle.std.specs.Prelude.{Ok, Err}
use lib.ListN.{length}
use lib.Seq.{sets}
use Rattle.types.specs.declared.Counted.{Counted}
use Rattle.types.specs.declared.Verdict.{Verdict}
use Rattle.numbers.specs.Search.{any}
use Rattle.numbers.proofs.Search.{any_agree}
use Rattle.lists.specs.Places.{tabulate}
use Rattle.lists.proofs.Places.{tabulate_agree}
use Rattle.encoding.specs.Placed.{Fitted}
use Rattle.encoding.proofs.Fitted.{fitted_as, fitted_start}
use Rattle.encoding.specs.Text.{ascii}
use Rattle.rules.specs.Call.{answer}
use Rattle.rules.specs.Rule.{◌when◌, lowest}
use Rattle.sigma.specs.Answer.{is_accepted}
use Rattle.formats.specs.Load.{load_refusal}
use Rattle.formats.specs.Meaning.{IsRoundFile}
use Rattle.formats.specs.RoundCalls.{count_rounds, counting}
use Rattle.formats.specs.RoundFile.{count_field}
use Rattle.formats.specs.Sheet.{header_of, instance_of}
use Rattle.formats.proofs.Files.{count_given, count_runs}
use Rattle.runs.specs.Level.{bad_level, level_of, strong_enough}
use Rattle.runs.specs.Marker.{fails_at, marker_text, result_line, round_line, round_lines, verdict_line, verdict_on, word_line}
use Rattle.runs.proofs.Marker.{round_lines_law, verdict_on_record}
use Rattle.runs.proofs.MarkerLength.{text_short}
use Rattle.runs.proofs.MarkerRefusal.{file_line, file_refusal, level_line, sheet_line}
use Rattle.instance.proofs.SheetLoads.{loaded_header, on_fields}
use Rattle.refusals.specs.declared.Refusal.{Refusal}
use Rattle.refusals.specs.Number.{number}
use Rattle.refusals.proofs.Positive.{number_positive}
use Rattle.round_file.specs.Results.{counted}
use Rattle.sigma.specs.Instance.{Instance}
use Rattle.round_lines.specs.Lines.{fails_in, lines_in, verdict_in}
use Rattle.report.proofs.AtLevel.{level_bad, level_good}

-- the marker's text in 14,864 bytes, as far as it has room, is what the contract asks for
pub text_stored : (s f level : List ℕ) {l bytes m : List ℕ} {r : ℕ} → 14864 ≤ length l → marker_text s f level ≡ bytes
    → Fitted l 0 bytes m r
    → (r ≤ length m) × ((r ≡ length (marker_text s f level)) × (m ≡ sets l 0 (marker_text s f level)))
text_stored s f level room same fitted = fitted_start (fitted_as fitted same) (omega (arith, text_short s f level))

-- ---- the rounds of a sheet that loads and a file that reads

module _ (s f : List ℕ) (e : (count_rounds s f).refusal ≡ 0) where
  -- the verdict on a round
  verdict_same : (k : ℕ) → k < count_field f → verdict_on s f k ≡ verdict_in (instance_of s) f k
  unfolding verdict_in instance_of
  verdict_same k h = verdict_on_record s f e k h

  -- the rounds' lines
  lines_same : flatten (tabulate (count_field f) (round_line s f)) ≡ lines_in (instance_of s) f (count_field f)
  unfolding lines_in round_line
  lines_same =
      ap flatten (tabulate_agree (count_field f) _ _ (λ k h. ap (verdict_line k) (verdict_same k h)))

  -- whether one of them fails
  fails_same : any (count_field f) (λ k. not (is_accepted (verdict_on s f k))) ≡ fails_in (instance_of s) f (count_field f)
  unfolding fails_in
  fails_same = any_agree (count_field f) _ _ (λ k h. ap (λ (v : Verdict). not (is_accepted v)) (verdict_same k h))

  -- the whole text at a level
  rounds_same : (level : List ℕ) → bad_level level ≡ false
      → marker_text s f level
      ≡ word_line (ascii "rounds") (count_field f) ++ lines_in (instance_of s) f (count_field f)
      ++ result_line (fails_in (instance_of s) f (count_field f)
      || not (strong_enough (header_of s).challenges (count_field f) (level_of level)))
  unfolding round_lines fails_at
  rounds_same level good = round_lines_law s f level e good ∙ rw (lines_same, fails_same)

module _ (s f : List ℕ) where
  -- ---- one line

  -- a refused sheet
  pub sheet_text : (level : List ℕ) (refusal : Refusal) → number refusal ≡ load_refusal s → {n : ℕ} → n ≡ number refusal
      → marker_text s f level ≡ word_line (ascii "sheet") n
  sheet_text level refusal is_number told =
      rw (told, is_number) (sheet_line s f level (omega (arith, is_number, number_positive refusal)))

  module _ (passed : 0 ≡ load_refusal s) {inst : Instance} (values : inst ≡ instance_of s) where
    -- counting answers the sheet's and the file's number
    counts : {told : Counted} → told ≡ answer (counting inst.header f) → told ≡ count_rounds s f
    unfolding count_rounds
    counts is_count = on_fields s passed values (λ h. counting h f) is_count

    -- a refused file
    pub file_text : (level : List ℕ) (refusal : Refusal) → counted (Err refusal) ≡ answer (counting inst.header f)
        → {n : ℕ} → n ≡ number refusal → marker_text s f level ≡ word_line (ascii "file") n
    file_text level refusal is_count told =
        let same : number refusal ≡ (count_rounds s f).refusal = ap (λ (c : Counted). c.refusal) (counts is_count) in
        let loads = sym passed in
        let refused : 0 < (count_rounds s f).refusal = omega (arith, same, number_positive refusal) in
        rw (told, same, file_refusal s f loads refused) (file_line s f level loads refused)

    module _ {count : ℕ} (is_count : counted (Ok count) ≡ answer (counting inst.header f)) where
      -- nothing is refused of the sheet and the file
      counted_zero : (count_rounds s f).refusal ≡ 0
      counted_zero = ap (λ (c : Counted). c.refusal) (sym (counts is_count))

      -- the file is a round file of the sheet, and the count is its own
      pub file_reads : (IsRoundFile inst.header f) × (count ≡ count_field f)
      file_reads = (
        rw (loaded_header s passed values) ((count_runs s f).0 counted_zero).1,
        ap (λ (c : Counted). c.count) (counts is_count ∙ count_given s f counted_zero),
      )

      -- a refused level
      pub level_text : (level : List ℕ) (refusal : Refusal) → number refusal ≡ lowest ((25 when bad_level level) ∷ [])
          → {n : ℕ} → n ≡ number refusal → marker_text s f level ≡ word_line (ascii "level") n
      level_text level refusal is_number told =
          let (bad, same) = level_bad level is_number (λ e. omega (arith, e, number_positive refusal)) in
          rw (told, same) (level_line s f level counted_zero bad)

      -- ---- a line for each round

      -- the whole text
      pub rounds_text : (level : List ℕ) → 0 ≡ lowest ((25 when bad_level level) ∷ []) → {w : ℕ} → w ≡ level_of level
          → {round_failed failed : Bool} → round_failed ≡ fails_in inst f count
          → failed ≡ round_failed || not (strong_enough inst.header.challenges count w)
          → marker_text s f level ≡ word_line (ascii "rounds") count ++ lines_in inst f count ++ result_line failed
      unfolding instance_of
      rounds_text level given is_level is_round is_failed =
          rw (is_failed, is_level, is_round, loaded_header s passed values, values, file_reads.1)
          (rounds_same s f counted_zero level (level_good level given refl))
