-- The marker's text (01, "The marker's lines"; 02, cards 3 and 8), as the bytes that it prints.
-- Assumes nothing.
use Rattle.std.specs.Prelude.{ℕ, Bool, not, cond, ◌||◌, eqb}
use mathlib.Core.List.{List, [], ◌∷◌, ◌++◌, flatten, map}
use Rattle.types.specs.declared.Verdict.{Verdict}
use Rattle.types.specs.declared.Verdict.TheVariants.{Accepted, Rejected, Refused}
use Rattle.lists.specs.Places.{tabulate}
use Rattle.encoding.specs.Text.{ascii, decimal}
use Rattle.numbers.specs.Search.{any}
use Rattle.rules.specs.Answer.{unless_refused}
use Rattle.rules.specs.Rule.{Rule, ◌when◌, lowest}
use Rattle.formats.specs.Load.{load_rules}
use Rattle.formats.specs.Ours.{file_calls}
use Rattle.formats.specs.RoundCalls.{count_rounds, counting}
use Rattle.formats.specs.Sheet.{header_of}
use Rattle.sigma.specs.Answer.{is_accepted, rows_of}
use Rattle.runs.specs.Level.{bad_level, level_of, strong_enough}
use Rattle.runs.specs.MarkerCalls.{MarkerCalls, verdict_on as verdict_on_by}
use Rattle.runs.specs.Ours.{run_calls}

-- a line's end
unfoldable pub newline : List ℕ
newline = 0x0A ∷ []

-- a line of a word and a number
unfoldable pub word_line : List ℕ → ℕ → List ℕ
word_line word n = word ++ ascii " " ++ decimal n ++ newline

-- a row, with a space before it
unfoldable pub row_word : ℕ → List ℕ
row_word row = ascii " " ++ decimal row

-- what a verdict's line says after the round's number
unfoldable pub verdict_text : Verdict → List ℕ
verdict_text Accepted = ascii "accepted"
verdict_text (Rejected mask) = ascii "rejected" ++ flatten (map row_word (rows_of mask))
verdict_text (Refused number) = ascii "refused " ++ decimal number

-- the line of round k and its verdict
unfoldable pub verdict_line : ℕ → Verdict → List ℕ
verdict_line k verdict = decimal k ++ ascii " " ++ verdict_text verdict ++ newline

-- the last line
unfoldable pub result_line : Bool → List ℕ
result_line failed = cond failed (ascii "fail") (ascii "pass") ++ newline

-- the verdict on round k of a file
unfoldable pub verdict_on : List ℕ → List ℕ → ℕ → Verdict
verdict_on sheet f k = verdict_on_by file_calls run_calls sheet f k

-- the line of round k of a file
unfoldable pub round_line : List ℕ → List ℕ → ℕ → List ℕ
round_line sheet f k = verdict_line k (verdict_on sheet f k)

-- whether a file fails at the level w: some round is not accepted, or its rounds are not enough for the level
unfoldable pub fails_at : List ℕ → List ℕ → ℕ → ℕ → Bool
fails_at sheet f w count =
    any count (λ k. not (is_accepted (verdict_on sheet f k))) || not (strong_enough (header_of sheet).challenges count w)

-- the lines of a file that reads: the count, a line per round, and `fail` if it fails at the level w, else `pass`
unfoldable pub round_lines : List ℕ → List ℕ → ℕ → ℕ → List ℕ
round_lines sheet f w count =
    word_line (ascii "rounds") count ++ flatten (tabulate count (round_line sheet f)) ++ result_line (fails_at sheet f w count)

-- what is asked before any round is judged: the sheet's rules, the file's and the level's
unfoldable pub mark_rules : List ℕ → List ℕ → List ℕ → List Rule
mark_rules sheet f level = load_rules sheet ++ (counting (header_of sheet) f).refusals ++ (25 when bad_level level) ∷ []

-- the number of the one line of a sheet, a file or a level that is refused, 0 where none is
unfoldable pub mark_refusal : List ℕ → List ℕ → List ℕ → ℕ
mark_refusal sheet f level = lowest (mark_rules sheet f level)

-- the word of that line: which of the three is refused
unfoldable pub refused_word : ℕ → List ℕ
refused_word number = cond (eqb number 25) (ascii "level") (cond (eqb number 12) (ascii "file") (ascii "sheet"))

-- the marker's whole text on a sheet, a round file and a level
unfoldable pub marker_text : List ℕ → List ℕ → List ℕ → List ℕ
marker_text sheet f level =
    let refusal : ℕ = mark_refusal sheet f level in
    unless_refused refusal (round_lines sheet f (level_of level) (count_rounds sheet f).count) (word_line (refused_word refusal) refusal)

-- the marker as it is defined
abbrev pub marker_calls : MarkerCalls
marker_calls = record { marker_text = marker_text }
