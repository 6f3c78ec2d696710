-- The reason is true (02, cards 1 and 8), for every sheet and every round file. It says what the one line is, in literal words, by what
-- 01 says of the two files: which number from 2 on is the first whose condition holds, which value is the first that breaks
-- that rule, and what both sides of the differing rows are.
-- Assumes nothing.
use Rattle.std.specs.Prelude.{ℕ, ◌*◌, ◌%◌, ◌^◌, ◌<◌, ◌≤◌, ◌≡◌, ◌⊎◌, ◌↔◌, get_or}
use mathlib.Core.List.{List, [], ◌∷◌, ◌++◌, flatten, map}
use Rattle.types.specs.declared.Round.{Round}
use Rattle.types.specs.declared.Verdict.TheVariants.{Accepted}
use Rattle.encoding.specs.Text.{ascii, decimal}
use Rattle.lists.specs.Member.{Member}
use Rattle.rules.specs.Condition.{Condition, Given}
use Rattle.rules.specs.Order.{sheet_numbers}
use Rattle.rules.specs.Refuses.{Refuses}
use Rattle.formats.specs.FileCalls.{FileCalls}
use Rattle.formats.specs.Refusals.{load_conditions, round_conditions}
use Rattle.formats.specs.Sheet.{header_of, instance_of}
use Rattle.sigma.specs.Image.{row_image}
use Rattle.sigma.specs.Instance.{statement_at, table_of}
use Rattle.sigma.specs.Meaning.{FailsExactly, FailsFirst}
use Rattle.sigma.specs.Refusals.{judge_conditions}
use Rattle.runs.specs.RunCalls.{RunCalls}
use Rattle.reasons.specs.Breaks.{Breaks, FirstBreak, LengthBreaks}
use Rattle.reasons.specs.ReasonCalls.{ReasonCalls}

-- the numbers of what the reason asks, 2 to 16
abbrev pub reason_numbers : List ℕ
reason_numbers = sheet_numbers ++ 12 ∷ 13 ∷ 14 ∷ 15 ∷ 16 ∷ []

-- both sides of a row of a round: [r]_i, and t_i · z_i^c mod m
abbrev pub left_side : List ℕ → Round → ℕ → ℕ
left_side s round row = row_image (table_of (instance_of s)) round.response row

abbrev pub right_side : List ℕ → Round → ℕ → ℕ
right_side s round row =
    get_or round.commitment row 0 * statement_at (instance_of s) row ^ round.challenge % (header_of s).modulus

-- a row and its two sides, each with a space before it
abbrev pub told_row : List ℕ → Round → ℕ → List ℕ
told_row s round row =
    ascii " " ++ decimal row ++ ascii " " ++ decimal (left_side s round row) ++ ascii " " ++ decimal (right_side s round row)

module _ (files : FileCalls) where
  open files use {fetch_round}

  -- round 0 of a file, as the read call gives it
  abbrev pub first_round : List ℕ → List ℕ → Round
  first_round s f = (fetch_round s f 0).round

  -- what is asked of a sheet, of a file and of its round 0, in 01's order
  abbrev pub reason_conditions : List ℕ → List ℕ → List Condition
  reason_conditions s f =
      load_conditions s ++ (round_conditions (header_of s) f 0 ++ judge_conditions (instance_of s) (first_round s f))

module _ (reasons : ReasonCalls) where
  open reasons use {reason_text}

  -- the line on a value, and the line on a length
  abbrev pub OffsetLine : List ℕ → List ℕ → ℕ → Type 0
  OffsetLine s f n =
      (o : ℕ) × FirstBreak s f n o × (reason_text s f ≡ ascii "refused " ++ decimal n ++ ascii " " ++ decimal o ++ ascii "\n")

  abbrev pub LengthLine : List ℕ → List ℕ → ℕ → Type 0
  LengthLine s f n =
      (l : ℕ) × LengthBreaks s f n l × (reason_text s f ≡ ascii "refused " ++ decimal n ++ ascii " length " ++ decimal l ++ ascii "\n")

module _ (files : FileCalls) (reasons : ReasonCalls) where
  open reasons use {reason_text}

  -- the line on exactly the rows whose two sides differ, rising; the first of them is 01's row
  abbrev pub RejectedLine : List ℕ → List ℕ → Type 0
  RejectedLine s f =
      (row : ℕ) × (others : List ℕ) × FailsFirst (instance_of s) (first_round files s f) row ×
      FailsExactly (instance_of s) (first_round files s f) (row ∷ others) ×
      (reason_text s f ≡ ascii "rejected" ++ flatten (map (told_row s (first_round files s f)) (row ∷ others)) ++ ascii "\n")

module _ (files : FileCalls) (code : RunCalls) (reasons : ReasonCalls) where
  open code use {judge_round}
  open reasons use {reason_text}

  pub record ReasonsTrue : Type 0 where
    -- a number is given: that of the first condition that holds, from 2 on, and 0 where none does
    pub number : (s f : List ℕ) → (n : ℕ) × Refuses reason_numbers (reason_conditions files s f) n (Unit {0})
    -- where no lower rule is broken, a rule's condition holds exactly where some value breaks it or a length does; so of the rules
    -- below the number none is broken
    pub broken : (s f : List ℕ) (m : ℕ) → Given (reason_conditions files s f) m → (n : ℕ) → Member n reason_numbers → (m ≡ 0) ⊎ (n ≤ m)
        → (m ≡ n) ↔ (((o : ℕ) × Breaks s f n o) ⊎ ((l : ℕ) × LengthBreaks s f n l))
    -- a refusal is told with the offset of the first value that breaks its rule, or with the length that does
    pub refused : (s f : List ℕ) (n : ℕ) → Given (reason_conditions files s f) n → 0 < n
        → OffsetLine reasons s f n ⊎ LengthLine reasons s f n
    -- no rule is broken by a value and by a length, so a length is told exactly where one breaks the rule
    pub apart : (s f : List ℕ) (n o l : ℕ) → Breaks s f n o → ¬ LengthBreaks s f n l
    -- where nothing is refused, the line is `accepted`, or it has the differing rows, each with both sides' values, that of [r] first
    pub judged : (s f : List ℕ) → Given (reason_conditions files s f) 0
        → (reason_text s f ≡ ascii "accepted\n") ⊎ RejectedLine files reasons s f
    -- `accepted` is printed exactly where judging accepts round 0
    pub accepted : (s f : List ℕ) → (reason_text s f ≡ ascii "accepted\n") ↔ (judge_round s (first_round files s f) ≡ Accepted)
