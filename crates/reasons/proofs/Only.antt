-- What makes the reason true determines it: two that are true over the same calls on files and rounds say the same of every sheet
-- and file.
-- Assumes nothing.
use Prim.Native.Nat.{ℕ, ◌<◌}
use mathlib.Core.Path.{◌≡◌, sym, ap, subst, ◌∙◌}
use mathlib.Core.Bool.{cond}
use mathlib.Core.List.{List, ◌∷◌, ◌++◌, flatten, map}
use mathlib.Core.Logic.{◌⊎◌, inl, inr}
use native.Mathlib.Omega.{arith}
use lib.Dec.{eqb}
use lib.ListN.{length}
use Rattle.types.specs.declared.Fetched.{Fetched}
use Rattle.types.specs.declared.Round.{Round}
use Rattle.encoding.specs.Text.{ascii, decimal}
use Rattle.lists.proofs.Rising.{rising_only}
use Rattle.rules.specs.Condition.{Given}
use Rattle.rules.proofs.Determined.{below_or_not, either}
use Rattle.formats.specs.FileCalls.{FileCalls}
use Rattle.formats.specs.Refusals.{load_conditions, round_conditions}
use Rattle.formats.specs.Sheet.{header_of, instance_of}
use Rattle.sigma.specs.Meaning.{FailsExactly}
use Rattle.sigma.specs.Refusals.{judge_conditions}
use Rattle.runs.specs.RunCalls.{RunCalls}
use Rattle.runs.specs.Same.{SameRuns}
use Rattle.reasons.specs.Breaks.{FirstBreak, LengthBreaks}
use Rattle.reasons.specs.ReasonCalls.{ReasonCalls}
use Rattle.reasons.specs.ReasonsTrue.{
  LengthLine,
  OffsetLine,
  ReasonsTrue,
  RejectedLine,
  first_round,
  reason_conditions,
  told_row,
}
use Rattle.reasons.specs.Same.{SameReasons}

-- ---- what breaks a rule

-- the length that breaks a rule is that of the sheet, and of the file for 12
length_is : (s f : List ℕ) (n l : ℕ) → LengthBreaks s f n l → l ≡ cond (eqb n 12) (length f) (length s)
length_is s f n l broken = at broken
  where
    whose : ℕ → ℕ
    whose k = cond (eqb k 12) (length f) (length s)

    at : LengthBreaks s f n l → l ≡ whose n
    at (inl (short, two)) = short.0 ∙ sym (ap whose two)
    at (inr (inl (misfit, nine))) = misfit.0 ∙ sym (ap whose nine)
    at (inr (inr (inl (misfit, twelve)))) = misfit.0 ∙ sym (ap whose twelve)
    at (inr (inr (inr none))) = absurd none

-- one value is the first that breaks a rule
first_only : (s f : List ℕ) (n o p : ℕ) → FirstBreak s f n o → FirstBreak s f n p → o ≡ p
first_only s f n o p a b =
    below_or_not o p (λ low. absurd (b.before o low a.breaks))
    (λ high. below_or_not p o (λ low. absurd (a.before p low b.breaks)) (λ low. omega (arith, high, low)))

-- ---- two reasons

module _ {files files' : FileCalls} {code code' : RunCalls} {reasons reasons' : ReasonCalls} (true : ReasonsTrue files code reasons)
    (true' : ReasonsTrue files' code' reasons') (fetched : (s f : List ℕ) (k : ℕ) → files.fetch_round s f k ≡ files'.fetch_round s f k)
    (runs : SameRuns code code') (s f : List ℕ) where
  -- both read one round 0
  first_same : first_round files s f ≡ first_round files' s f
  first_same = ap (λ (x : Fetched). x.round) (fetched s f 0)

  -- and judge it alike
  verdict_same : code.judge_round s (first_round files s f) ≡ code'.judge_round s (first_round files' s f)
  verdict_same = runs.judge_round s (first_round files s f) ∙ ap (code'.judge_round s) first_same

  -- so one number is given
  given_same : (n : ℕ) → Given (reason_conditions files s f) n → Given (reason_conditions files' s f) n
  given_same n =
      subst (λ (round : Round). Given (load_conditions s ++ (round_conditions (header_of s) f 0 ++ judge_conditions (instance_of s) round)) n)
      first_same

  -- the line of a refusal
  refused_same : (n : ℕ) → OffsetLine reasons s f n ⊎ LengthLine reasons s f n → OffsetLine reasons' s f n ⊎ LengthLine reasons' s f n
      → reasons.reason_text s f ≡ reasons'.reason_text s f
  refused_same n (inl (o, first, text)) (inl (p, first', text')) =
      text
      ∙ ap (λ (k : ℕ). ascii "refused " ++ decimal n ++ ascii " " ++ decimal k ++ ascii "\n") (first_only s f n o p first first')
      ∙ sym text'
  refused_same n (inl (o, first, text)) (inr (l, breaks, text')) = absurd (true.apart s f n o l first.breaks breaks)
  refused_same n (inr (l, breaks, text)) (inl (o, first, text')) = absurd (true.apart s f n o l first.breaks breaks)
  refused_same n (inr (l, breaks, text)) (inr (m, breaks', text')) =
      text
      ∙ ap (λ (k : ℕ). ascii "refused " ++ decimal n ++ ascii " length " ++ decimal k ++ ascii "\n")
      (length_is s f n l breaks ∙ sym (length_is s f n m breaks'))
      ∙ sym text'

  -- the line of a rejected round: rows that rise and have the same members are one list
  rejected_same : RejectedLine files reasons s f → RejectedLine files' reasons' s f → reasons.reason_text s f ≡ reasons'.reason_text s f
  rejected_same (row, others, first, exact, text) (row', others', first', exact', text') =
      let here : FailsExactly (instance_of s) (first_round files s f) (row' ∷ others') =
      subst (λ (r : Round). FailsExactly (instance_of s) r (row' ∷ others')) (sym first_same) exact' in
      let same : row ∷ others ≡ row' ∷ others' =
      rising_only (row ∷ others) (row' ∷ others') exact.rising here.rising
      (λ v. (λ m. (here.exactly v).1 ((exact.exactly v).0 m), λ m. (exact.exactly v).1 ((here.exactly v).0 m))) in
      text ∙ ap (λ (rows : List ℕ). ascii "rejected" ++ flatten (map (told_row s (first_round files s f)) rows) ++ ascii "\n") same
      ∙ ap (λ (r : Round). ascii "rejected" ++ flatten (map (told_row s r) (row' ∷ others')) ++ ascii "\n") first_same ∙ sym text'

  -- the line of a round that is not refused
  judged_same : (reasons.reason_text s f ≡ ascii "accepted\n") ⊎ RejectedLine files reasons s f
      → (reasons'.reason_text s f ≡ ascii "accepted\n") ⊎ RejectedLine files' reasons' s f
      → reasons.reason_text s f ≡ reasons'.reason_text s f
  judged_same (inl text) (inl text') = text ∙ sym text'
  judged_same (inl text) (inr rows) = text ∙ sym ((true'.accepted s f).1 (sym verdict_same ∙ (true.accepted s f).0 text))
  judged_same (inr rows) (inl text') = (true.accepted s f).1 (verdict_same ∙ (true'.accepted s f).0 text') ∙ sym text'
  judged_same (inr rows) (inr rows') = rejected_same rows rows'

  -- the line
  text_same : reasons.reason_text s f ≡ reasons'.reason_text s f
  text_same =
      let (n, number) = true.number s f in
      let given = number.given in
      either n
      (λ none.
      let zero = subst (Given (reason_conditions files s f)) none given in
      judged_same (true.judged s f zero) (true'.judged s f (given_same 0 zero)))
      (λ some. refused_same n (true.refused s f n given some) (true'.refused s f n (given_same n given) some))

pub only_reasons : {files files' : FileCalls} {code code' : RunCalls} {reasons reasons' : ReasonCalls}
    → ReasonsTrue files code reasons → ReasonsTrue files' code' reasons'
    → ((s f : List ℕ) (k : ℕ) → files.fetch_round s f k ≡ files'.fetch_round s f k) → SameRuns code code'
    → SameReasons reasons reasons'
only_reasons true true' fetched runs = record { reason_text = text_same true true' fetched runs }
