-- Demand 2's verdicts on whole files (00; 01, "The marker's lines"; 02, cards 3 and 8): the marker's text names the file's own count,
-- has a line for each round with what judging answers on the round as it reads, and ends in `pass` exactly where every round is
-- accepted and K to the count of rounds is at least 2^w. A sheet, file or level that is refused gives one line with its number.
-- The words, the numbers and the places of K, w and the count stand here as they are.
-- Assumes nothing.
use Rattle.std.specs.Prelude.{ℕ, ◌^◌, ◌<◌, ◌≤◌, ◌≡◌, ◌⊎◌, ◌≢◌, get_or, length}
use mathlib.Core.List.{List, [], ◌∷◌, ◌++◌, flatten, map}
use Rattle.types.specs.declared.Verdict.{Verdict}
use Rattle.types.specs.declared.Verdict.TheVariants.{Accepted, Rejected, Refused}
use Rattle.lists.specs.Member.{Member}
use Rattle.lists.specs.Places.{tabulate}
use Rattle.encoding.specs.Bytes.{number_at}
use Rattle.encoding.specs.Text.{ascii, decimal}
use Rattle.formats.specs.FileCalls.{FileCalls}
use Rattle.sigma.specs.Answer.{rows_of}
use Rattle.runs.specs.MarkerCalls.{MarkerCalls, verdict_on}
use Rattle.runs.specs.RunCalls.{RunCalls}

-- the line of a rejected round k: its number and the rows
abbrev pub rows_line : ℕ → List ℕ → List ℕ
rows_line k rows = decimal k ++ ascii " rejected" ++ flatten (map (λ row. ascii " " ++ decimal row) rows) ++ ascii "\n"

-- the line of round k: its number and its verdict, with the differing rows or the refusal
unfoldable pub printed : ℕ → Verdict → List ℕ
printed k Accepted = decimal k ++ ascii " accepted\n"
printed k (Rejected mask) = rows_line k (rows_of mask)
printed k (Refused number) = decimal k ++ ascii " refused " ++ decimal number ++ ascii "\n"

-- a level file of one byte from 1 to 64
abbrev pub IsLevel : List ℕ → Type 0
IsLevel level = (length level ≡ 1) × (1 ≤ get_or level 0 0) × (get_or level 0 0 ≤ 64)

module _ (files : FileCalls) (runs : RunCalls) where
  -- the text of a file that reads: its own count, a line for each of its rounds, and a last line
  abbrev pub text_ending : List ℕ → List ℕ → List ℕ → List ℕ
  text_ending sheet f last =
      ascii "rounds " ++ decimal (number_at 2 f 5) ++ ascii "\n" ++
      flatten (tabulate (number_at 2 f 5) (λ k. printed k (verdict_on files runs sheet f k))) ++ last

  -- every round of a file is accepted, and K, in bytes 14 to 17 of the sheet, to the count of rounds is at least 2^w
  abbrev pub Passes : List ℕ → List ℕ → List ℕ → Type 0
  Passes sheet f level =
      ((k : ℕ) → k < number_at 2 f 5 → verdict_on files runs sheet f k ≡ Accepted) ×
      (2 ^ get_or level 0 0 ≤ number_at 4 sheet 14 ^ number_at 2 f 5)

module _ (files : FileCalls) (runs : RunCalls) (marker : MarkerCalls) where
  open files use {load, count_rounds}
  open marker use {marker_text}

  pub record MarksFiles : Type 0 where
    -- a refused sheet gives the one line `sheet N`, whatever the file and the level are
    pub refused_sheet : (sheet f level : List ℕ) → 0 < (load sheet).refusal
        → marker_text sheet f level ≡ ascii "sheet " ++ decimal (load sheet).refusal ++ ascii "\n"
    -- a refused file of a sheet that loads gives the one line `file 12`, whatever the level is
    pub refused_file : (sheet f level : List ℕ) → (load sheet).refusal ≡ 0 → 0 < (count_rounds sheet f).refusal
        → marker_text sheet f level ≡ ascii "file 12\n"
    -- a level that is not one byte from 1 to 64, beside a file that reads, gives the one line `level 25`
    pub refused_level : (sheet f level : List ℕ) → (count_rounds sheet f).refusal ≡ 0
        → (length level ≢ 1) ⊎ (get_or level 0 0 < 1) ⊎ (64 < get_or level 0 0)
        → marker_text sheet f level ≡ ascii "level 25\n"
    -- any other text ends in `pass` exactly where the file passes, else in `fail`
    pub ending : (sheet f level : List ℕ) → (count_rounds sheet f).refusal ≡ 0 → IsLevel level
        → (Passes files runs sheet f level × (marker_text sheet f level ≡ text_ending files runs sheet f (ascii "pass\n")))
        ⊎ ((¬ Passes files runs sheet f level) × (marker_text sheet f level ≡ text_ending files runs sheet f (ascii "fail\n")))
    -- so a file of no rounds fails at every level
    pub empty_fails : (sheet f level : List ℕ) → (count_rounds sheet f).refusal ≡ 0 → IsLevel level → number_at 2 f 5 ≡ 0
        → marker_text sheet f level ≡ ascii "rounds 0\nfail\n"
