-- What is not refused: the line is `accepted` exactly where judging accepts round 0, and else it has the differing rows.
-- Assumes nothing.
use Prim.Native.Nat.{ℕ}
use mathlib.Core.Path.{◌≡◌, refl, sym, ap, ◌∙◌}
use mathlib.Core.List.{List, ◌++◌, flatten, map}
use mathlib.Core.Logic.{◌↔◌, ◌⊎◌, inl, inr, ⊎_elim}
use native.Mathlib.Decide.{dec_lt}
use native.Mathlib.Omega.{arith}
use lib.ListN.{get_or}
use Rattle.types.specs.declared.Fetched.{Fetched}
use Rattle.types.specs.declared.Round.{Round}
use Rattle.types.specs.declared.Verdict.{Verdict}
use Rattle.types.specs.declared.Verdict.TheVariants.{Accepted, Rejected, Refused}
use Rattle.encoding.specs.Text.{ascii}
use Rattle.lists.specs.Places.{zeros8}
use Rattle.lists.proofs.Places.{get_d_zeros8}
use Rattle.sigma.specs.Answer.{judged, outcome, rows_of}
use Rattle.sigma.specs.Judge.{judging}
use Rattle.sigma.specs.Meaning.{FailsExactly}
use Rattle.sigma.proofs.Answer.{accepted_not_refused, judged_given}
use Rattle.sigma.proofs.Fails.{fails_split}
use Rattle.formats.specs.Load.{load_refusal}
use Rattle.formats.specs.RoundCalls.{check_round, no_round}
use Rattle.formats.specs.Sheet.{instance_of}
use Rattle.formats.proofs.Files.{check_runs, fetch_refused}
use Rattle.formats.proofs.Loads.{loads, loads_valid}
use Rattle.formats.proofs.OnSheet.{on_sheet_refused}
use Rattle.runs.specs.Calls.{judge_round}
use Rattle.runs.proofs.Protocol.{sheet_accepted, verdicts}
use Rattle.reasons.specs.declared.Spot.{Spot}
use Rattle.reasons.specs.Ours.{RejectedLine, first_round}
use Rattle.reasons.specs.Reason.{first_verdict, line_text, reason_line, reason_number, reason_text}
use Rattle.reasons.specs.ReasonsTrue.{told_row}
use Rattle.reasons.proofs.Line.{checked_judged, checked_refused, text_accepted, text_rejected}

-- no other verdict's line is `accepted`
accepted_line : (v : Verdict) (spot : ℕ → Spot) (left right : List ℕ) → line_text v spot left right ≡ ascii "accepted\n"
    → v ≡ Accepted
unfolding line_text ascii
accepted_line Accepted spot left right same = refl
accepted_line (Rejected mask) spot left right same = absurd (omega (arith, ap (λ (l : List ℕ). get_or l 0 0) same))
accepted_line (Refused n) spot left right same = absurd (omega (arith, ap (λ (l : List ℕ). get_or l 0 0) same))

-- where judging accepts a round, the sheet loads
accepted_loads : (s : List ℕ) (round : Round) → judge_round s round ≡ Accepted → load_refusal s ≡ 0
unfolding judge_round judging
accepted_loads s round accepted = elim (dec_lt 0 (load_refusal s)) [
  | yes refused ↦ absurd (accepted_not_refused _ (sym accepted ∙ on_sheet_refused s (judging (instance_of s) round) refused))
  | no passed ↦ omega arith
]

module _ (s f : List ℕ) where
  -- where nothing is refused, the check passes
  check_passed : reason_number s f ≡ 0 → check_round s f 0 ≡ 0
  unfolding reason_number outcome
  check_passed none = elim (dec_lt 0 (check_round s f 0)) [
    | yes refused ↦ absurd (omega (arith, ap (λ (v : Verdict). (outcome v).number) (checked_refused s f refused)))
    | no passed ↦ omega arith
  ]

  -- and the sheet loads
  pub reason_loads : reason_number s f ≡ 0 → load_refusal s ≡ 0
  reason_loads none = (loads s).1 ((check_runs s f 0).0 (check_passed none)).0

  -- round 0 is then accepted, or rejected with the rows that fail
  pub first_judged : reason_number s f ≡ 0 → (first_verdict s f ≡ Accepted)
      ⊎ ((mask : ℕ) × (first_verdict s f ≡ Rejected mask) × FailsExactly (instance_of s) (first_round s f) (rows_of mask))
  unfolding reason_number
  first_judged none =
      let passed = check_passed none in
      let same = checked_judged s f passed in
      let number = ap (λ (v : Verdict). (outcome v).number) (sym same) ∙ none in
      let rows = verdicts s (reason_loads none) (first_round s f) number in
      ⊎_elim (λ e. inl (same ∙ e)) (λ (mask, e). inr (mask, same ∙ e, ((rows.rejected mask).0 e).0)) rows.decided

  -- and the line is `accepted` or has these rows
  pub line_judged : reason_number s f ≡ 0 → (reason_text s f ≡ ascii "accepted\n") ⊎ RejectedLine s f
  line_judged none =
      ⊎_elim (λ e. inl (text_accepted s f e))
      (λ (mask, e, all).
      let (row, others, whole, first, exactly) = fails_split (instance_of s) (first_round s f) (rows_of mask) all in
      let text = text_rejected s f mask e (λ k m. ((all.exactly k).0 m).0) in
      inr (row, others, first, exactly, text ∙ ap (λ (ks : List ℕ). ascii "rejected" ++ flatten (map (told_row s (first_round s f)) ks) ++ ascii "\n") whole))
      (first_judged none)

  -- a round that judging accepts stands in a file that the check lets pass: else it is read as zeros, which are no elements
  accepted_passed : judge_round s (first_round s f) ≡ Accepted → check_round s f 0 ≡ 0
  unfolding no_round
  accepted_passed accepted = elim (dec_lt 0 (check_round s f 0)) [
    | yes refused ↦
        let loaded = accepted_loads s (first_round s f) accepted in
        let fits = ((sheet_accepted s loaded (first_round s f)).0 accepted).0 in
        let element = fits.commitment 0 (loads_valid s loaded).table.some_row in
        let zeros : get_or (first_round s f).commitment 0 0 ≡ get_or zeros8 0 0 =
        ap (λ (fetched : Fetched). get_or fetched.round.commitment 0 0) (fetch_refused s f 0 refused) in
        absurd (omega (arith, element.positive, zeros, get_d_zeros8 0))
    | no passed ↦ omega arith
  ]

  -- `accepted` is printed exactly where judging accepts round 0
  pub line_accepted : (reason_text s f ≡ ascii "accepted\n") ↔ (judge_round s (first_round s f) ≡ Accepted)
  unfolding reason_text reason_line first_verdict judged
  line_accepted =
      let given = judged_given (check_round s f 0) (judge_round s (first_round s f)) Accepted accepted_not_refused in (
        λ same. (given.0 (accepted_line (first_verdict s f) _ _ _ same)).1,
        λ accepted. text_accepted s f (given.1 (accepted_passed accepted, accepted)),
      )
