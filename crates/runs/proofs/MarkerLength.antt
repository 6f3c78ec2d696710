-- How long the marker's text is at most: `rounds 512`, 512 lines of at most 29 bytes, and `fail` are 14,864 bytes.
-- Assumes nothing.
use Prim.Native.Nat.{ℕ, zero, suc, ◌+◌, ◌*◌, ◌<◌, ◌≤◌}
use mathlib.Core.Path.{◌≡◌, refl, ap, ◌∙◌}
use mathlib.Core.Bool.{Bool, true, false}
use mathlib.Core.List.{List, [], ◌∷◌, ◌++◌, flatten, map}
use native.Mathlib.Decide.{dec_lt}
use native.Mathlib.Omega.{arith}
use lib.ListN.{length, length-append}
use Rattle.types.specs.declared.Verdict.{Verdict}
use Rattle.types.specs.declared.Verdict.TheVariants.{Accepted, Rejected, Refused}
use Rattle.numbers.specs.Bits.{bit}
use Rattle.lists.specs.Places.{items_at, tabulate}
use Rattle.lists.proofs.Places.{tabulate_suc}
use Rattle.lists.proofs.Rows.{flatten_append}
use Rattle.lists.proofs.Words.{words_short}
use Rattle.encoding.specs.Text.{ascii, decimal}
use Rattle.encoding.proofs.Text.{decimal_length}
use Rattle.formats.specs.Load.{load_refusal}
use Rattle.formats.specs.RoundCalls.{count_rounds}
use Rattle.formats.specs.RoundFile.{count_field}
use Rattle.formats.proofs.Files.{count_runs}
use Rattle.formats.proofs.Loads.{loads}
use Rattle.sigma.specs.Answer.{rows_of}
use Rattle.runs.specs.Level.{bad_level, level_of}
use Rattle.runs.specs.Marker.{
  newline,
  row_word,
  word_line,
  verdict_text,
  verdict_line,
  result_line,
  verdict_on,
  round_line,
  fails_at,
  round_lines,
  marker_text,
}
use Rattle.runs.proofs.Marker.{round_lines_law, round_refusal}
use Rattle.runs.proofs.MarkerRefusal.{file_line, level_line, member_below, sheet_line, sheet_low}

-- ---- one line

-- a line of a word and a number
length_word_line : (word : List ℕ) (n : ℕ) → length (word_line word n) ≡ length word + length (decimal n) + 2
unfolding word_line ascii newline
length_word_line word n = simp length-append (omega arith)

-- the last line
pub length_result_line : (failed : Bool) → length (result_line failed) ≡ 5
unfolding result_line ascii newline
length_result_line true = refl
length_result_line false = refl

-- the rows of a mask, of which there are eight at most
rows_short : (mask : ℕ) → length (flatten (map row_word (rows_of mask))) ≤ 16
unfolding rows_of row_word ascii
rows_short mask =
    words_short row_word 2 8 (bit mask) (λ row below. simp length-append (omega (arith, decimal_length 0 row (omega arith))))

module _ (sheet f : List ℕ) where
  module _ (loaded : load_refusal sheet ≡ 0) where
    -- a verdict's text
    short : (k : ℕ) (v : Verdict) → verdict_on sheet f k ≡ v → length (verdict_text v) ≤ 24
    unfolding verdict_text verdict_on ascii
    short k Accepted e = omega arith
    short k (Rejected mask) e = simp length-append (omega (arith, rows_short mask))
    short k (Refused number) e =
        let small : number < 100 = member_below 100 number (14 ∷ 15 ∷ 16 ∷ []) tt (round_refusal sheet f loaded k number e) in
        simp length-append (omega (arith, decimal_length 1 number small))

    -- a round's line
    line_short : (k : ℕ) → k < 512 → length (round_line sheet f k) ≤ 29
    unfolding round_line verdict_line ascii newline
    line_short k few =
        simp length-append (omega (arith, short k (verdict_on sheet f k) refl, decimal_length 2 k (omega arith)))

    -- the lines of the first rounds
    lines_short : (n : ℕ) → n ≤ 512 → length (flatten (tabulate n (round_line sheet f))) ≤ 29 * n
    unfolding tabulate items_at flatten
    lines_short zero few = omega arith
    lines_short (suc n) few =
        let lines = tabulate n (round_line sheet f) in
        let more : flatten (tabulate (suc n) (round_line sheet f)) ≡ flatten lines ++ (round_line sheet f n ++ []) =
        ap flatten (tabulate_suc n (round_line sheet f)) ∙ flatten_append lines (round_line sheet f n ∷ []) in
        rw more (simp length-append (omega (arith, lines_short n (omega arith), line_short n (omega arith))))

    -- all lines
    rounds_short : (w n : ℕ) → n ≤ 512 → length (round_lines sheet f w n) ≤ 14864
    unfolding round_lines ascii
    rounds_short w n few =
        let head = length_word_line (ascii "rounds") n in
        let count = decimal_length 2 n (omega arith) in
        let last = length_result_line (fails_at sheet f w n) in
        simp length-append (omega (arith, lines_short n few))

module _ (sheet f level : List ℕ) where
  -- at a level that is one or is not
  levelled : (count_rounds sheet f).refusal ≡ 0 → (bad : Bool) → bad_level level ≡ bad → length (marker_text sheet f level) ≤ 14864
  unfolding ascii
  levelled e true is_bad =
      let number = decimal_length 1 25 (omega arith) in
      rw (level_line sheet f level e is_bad) (omega (arith, length_word_line (ascii "level") 25))
  levelled e false good =
      let (sheet_loads, file) = (count_runs sheet f).0 e in
      rw (round_lines_law sheet f level e good)
      (rounds_short sheet f ((loads sheet).1 sheet_loads) (level_of level) (count_field f) file.few)

  -- the whole text
  pub text_short : length (marker_text sheet f level) ≤ 14864
  unfolding ascii
  text_short = elim (dec_lt 0 (load_refusal sheet)) [
    | yes refused ↦
        let low = sheet_low sheet in
        let number = decimal_length 1 (load_refusal sheet) (omega arith) in
        rw (sheet_line sheet f level refused) (omega (arith, length_word_line (ascii "sheet") (load_refusal sheet)))
    | no loaded ↦ elim (dec_lt 0 (count_rounds sheet f).refusal) [
      | yes refused ↦
          let number = decimal_length 1 12 (omega arith) in
          rw (file_line sheet f level (omega arith) refused) (omega (arith, length_word_line (ascii "file") 12))
      | no passed ↦ levelled (omega arith) (bad_level level) refl
    ]
  ]
