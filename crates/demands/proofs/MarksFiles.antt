-- The marker's text is what the verdicts of the rounds make it: each line is the one that the statement has as text.
-- Assumes nothing.
use Prim.Native.Nat.{ℕ}
use mathlib.Core.Path.{◌≡◌, refl, ap, sym, ◌∙◌}
use mathlib.Core.Logic.{◌⊎◌, inl, inr}
use mathlib.Core.Bool.{Bool, true, false, false≢true}
use mathlib.Core.List.{List, ◌∷◌, ◌++◌, append_assoc, flatten}
use Rattle.types.specs.declared.Verdict.{Verdict}
use Rattle.types.specs.declared.Verdict.TheVariants.{Accepted, Rejected, Refused}
use Rattle.lists.specs.Places.{tabulate}
use Rattle.lists.proofs.Places.{tabulate_agree}
use Rattle.encoding.specs.Text.{ascii, digits, decimal}
use Rattle.formats.specs.Load.{load, load_refusal}
use Rattle.formats.specs.Ours.{file_calls}
use Rattle.formats.specs.RoundCalls.{count_rounds, fetch_round}
use Rattle.formats.specs.RoundFile.{count_field}
use Rattle.formats.specs.Sheet.{header_of, instance_of}
use Rattle.sigma.specs.Answer.{rows_of}
use Rattle.sigma.specs.Meaning.{FailsExactly, FailsFirst}
use Rattle.sigma.proofs.Fails.{fails_split}
use Rattle.runs.specs.Level.{bad_level, level_of}
use Rattle.runs.specs.Marker.{newline, word_line, row_word, verdict_text, verdict_line, result_line, verdict_on, round_line, fails_at, marker_calls, marker_text}
use Rattle.runs.specs.Ours.{run_calls}
use Rattle.runs.proofs.Level.{level_passes, says_bad_level}
use Rattle.runs.proofs.Marker.{empty_fails, passes_at, result_line_law, round_lines_law, round_refusal}
use Rattle.runs.proofs.MarkerCut.{text_cut}
use Rattle.runs.proofs.MarkerLength.{text_short}
use Rattle.runs.proofs.MarkerRefusal.{file_line, level_line, sheet_line}
use Rattle.runs.proofs.Protocol.{sheet_rejected}
use Rattle.demands.specs.Corollaries.{MarkerCorollaries}
use Rattle.demands.specs.MarksFiles.{rows_line, printed, text_ending, Passes, MarksFiles}

-- the line of a round
line_printed : (k : ℕ) (verdict : Verdict) → verdict_line k verdict ≡ printed k verdict
unfolding verdict_line row_word verdict_text printed newline ascii
line_printed k Accepted = simp append_assoc
line_printed k (Rejected mask) = simp append_assoc
line_printed k (Refused number) = simp append_assoc

-- the lines of all rounds behind the count, with a last line
lines_printed : (sheet f last : List ℕ)
    → word_line (ascii "rounds") (count_field f) ++ flatten (tabulate (count_field f) (round_line sheet f)) ++ last
    ≡ text_ending file_calls run_calls sheet f last
unfolding word_line round_line verdict_on newline ascii count_field
lines_printed sheet f last =
    ap (λ (lines : List (List ℕ)). word_line (ascii "rounds") (count_field f) ++ flatten lines ++ last)
    (tabulate_agree (count_field f) _ _ (λ k h. line_printed k (verdict_on sheet f k)))

-- the last line is `pass` where the file passes, else `fail`
ends : (sheet f level : List ℕ) → (count_rounds sheet f).refusal ≡ 0 → bad_level level ≡ false
    → (failed : Bool) → fails_at sheet f (level_of level) (count_field f) ≡ failed
    → (Passes file_calls run_calls sheet f level × (marker_text sheet f level ≡ text_ending file_calls run_calls sheet f (ascii "pass\n")))
    ⊎ ((¬ Passes file_calls run_calls sheet f level) × (marker_text sheet f level ≡ text_ending file_calls run_calls sheet f (ascii "fail\n")))
unfolding header_of count_field result_line verdict_on newline ascii
ends sheet f level e good false none = inl (
  (passes_at sheet f (level_of level) (count_field f)).0 none,
  round_lines_law sheet f level e good ∙ result_line_law sheet f (level_of level) (count_field f) false none ∙ lines_printed sheet f _,
)
ends sheet f level e good true fails = inr (
  λ passes. false≢true (sym ((passes_at sheet f (level_of level) (count_field f)).1 passes) ∙ fails),
  round_lines_law sheet f level e good ∙ result_line_law sheet f (level_of level) (count_field f) true fails ∙ lines_printed sheet f _,
)

-- the rows of a rejected round's line
rejected_rows : (sheet f : List ℕ) → load_refusal sheet ≡ 0 → (k mask : ℕ) → verdict_on sheet f k ≡ Rejected mask
    → (row : ℕ) × (others : List ℕ) × FailsFirst (instance_of sheet) (fetch_round sheet f k).round row
    × FailsExactly (instance_of sheet) (fetch_round sheet f k).round (row ∷ others)
    × (printed k (verdict_on sheet f k) ≡ rows_line k (row ∷ others))
unfolding verdict_on printed
rejected_rows sheet f loaded k mask e =
    let round = (fetch_round sheet f k).round in
    let all = ((sheet_rejected sheet loaded round mask).0 e).1.0 in
    let (row, others, whole, first, exactly) = fails_split (instance_of sheet) round (rows_of mask) all in
    (row, others, first, exactly, ap (printed k) e ∙ ap (rows_line k) whole)

pub marks_files : MarksFiles file_calls run_calls marker_calls
unfolding load verdict_on word_line newline ascii decimal digits count_field
marks_files = record {
  refused_sheet = sheet_line;
  refused_file = file_line;
  refused_level = λ sheet f level e refused. level_line sheet f level e ((says_bad_level level).complete refused);
  ending = λ sheet f level e is_level. ends sheet f level e ((level_passes level).1 is_level) _ refl;
  empty_fails = λ sheet f level e is_level z. empty_fails sheet f level e ((level_passes level).1 is_level) z;
}

pub marker_corollaries : MarkerCorollaries file_calls run_calls marker_calls
unfolding load verdict_on
marker_corollaries = record {
  rejected = rejected_rows;
  short = text_short;
  round_refusals = round_refusal;
  kept = text_cut;
}
