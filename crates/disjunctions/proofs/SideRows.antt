-- The rows of both sides of a rejected round, as its outcome names them: first come the first side that is rejected and the first row in
-- which it fails.
-- Assumes nothing.
use Prim.Native.Nat.{ℕ}
use mathlib.Core.Path.{◌≡◌, sym, ap, subst, ◌∙◌}
use mathlib.Core.Logic.{◌↔◌, ◌≢◌}
use mathlib.Core.List.{List, [], ◌∷◌, ◌++◌, flatten, head-eq_of_cons-eq, map, tail-eq_of_cons-eq}
use native.Mathlib.Omega.{arith}
use Rattle.types.specs.declared.Round.{Round}
use Rattle.disjunctions.specs.declared.OrRound.{OrRound}
use Rattle.disjunctions.specs.declared.OrVerdict.{OrVerdict}
use Rattle.disjunctions.specs.declared.OrVerdict.TheVariants.{OrAccepted, OrRejected}
use Rattle.formats.specs.Sheet.{instance_of}
use Rattle.runs.specs.Ours.{Accepts}
use Rattle.runs.proofs.Protocol.{sheet_accepted, sheet_rejected}
use Rattle.numbers.specs.Bits.{bit}
use Rattle.lists.specs.Choices.{selected}
use Rattle.sigma.specs.Answer.{rows_of}
use Rattle.sigma.specs.Meaning.{FailsFirst}
use Rattle.sigma.proofs.Fails.{fails_begin, fails_split}
use Rattle.disjunctions.specs.Judge.{judge_or}
use Rattle.disjunctions.specs.OneOfTwo.{or_number, or_outcome, side_rows}
use Rattle.disjunctions.specs.Ours.{AcceptsOr, Pair}
use Rattle.disjunctions.specs.Round.{first_round, second_round}
use Rattle.disjunctions.proofs.Judged.{both, earlier, later, or_accepted, or_ways}
use Rattle.disjunctions.proofs.Pairs.{first_loads, second_loads}

-- the values of an outcome
abbrev values_of : OrVerdict → List ℕ
values_of v = (or_outcome v).values

-- a side whose rows begin with a row
side_begins : (side mask row : ℕ) (others : List ℕ) → rows_of mask ≡ row ∷ others
    → (more : List ℕ) × (side_rows side mask ≡ side ∷ row ∷ more)
unfolding side_rows flatten
side_begins side mask row others same =
    (flatten (map (λ k. side ∷ k ∷ []) others), ap (λ (rows : List ℕ). flatten (map (λ k. side ∷ k ∷ []) rows)) same)

-- an accepted round's values
values_accepted : (more : List ℕ) → values_of OrAccepted ≢ 0 ∷ more
unfolding or_outcome
values_accepted more e = let z : ◌≡◌ {A = ℕ} 1 0 = head-eq_of_cons-eq e in omega arith

-- those of a round whose first side has a row, and of one whose second side alone has
values_first : (mask mask' row : ℕ) (others : List ℕ) → rows_of mask ≡ row ∷ others
    → (more : List ℕ) × (values_of (OrRejected mask mask') ≡ 0 ∷ 0 ∷ row ∷ more)
unfolding or_outcome
values_first mask mask' row others same =
    let (more, begins) = side_begins 0 mask row others same in
    (more ++ side_rows 1 mask', ap (λ (rows : List ℕ). 0 ∷ rows ++ side_rows 1 mask') begins)

values_second : (mask row : ℕ) (others : List ℕ) → rows_of mask ≡ row ∷ others
    → (more : List ℕ) × (values_of (OrRejected 0 mask) ≡ 0 ∷ 1 ∷ row ∷ more)
unfolding or_outcome side_rows rows_of selected bit flatten
values_second mask row others same =
    let (more, begins) = side_begins 1 mask row others same in (more, ap (λ (rows : List ℕ). 0 ∷ rows) begins)

-- two ways to begin: other sides, and other rows
other_side : (side side' row row' : ℕ) (more more' : List ℕ) → 0 ∷ side ∷ row ∷ more ≡ 0 ∷ side' ∷ row' ∷ more' → side ≡ side'
other_side side side' row row' more more' e = head-eq_of_cons-eq (tail-eq_of_cons-eq e)

other_row : (side side' row row' : ℕ) (more more' : List ℕ) → 0 ∷ side ∷ row ∷ more ≡ 0 ∷ side' ∷ row' ∷ more' → row ≡ row'
other_row side side' row row' more more' e = head-eq_of_cons-eq (tail-eq_of_cons-eq (tail-eq_of_cons-eq e))

module _ (s s' : List ℕ) (pair : Pair s s') (round : OrRound) (row : ℕ) (passed : or_number (judge_or s s' round) ≡ 0) where
  -- the two sides
  abbrev first : Round
  first = first_round round

  abbrev second : Round
  second = second_round (instance_of s).header.challenges round

  -- an accepted side fails in no row
  accepted_first : Accepts s (first_round round) → ¬ FailsFirst (instance_of s) (first_round round) row
  accepted_first a fails = fails.fails (((sheet_accepted s (first_loads pair) first).0 a).1 row fails.inside)

  second_fails : AcceptsOr s s' round → ¬ FailsFirst (instance_of s') (second_round (instance_of s).header.challenges round) row
  second_fails e fails =
      let (small, a, b) = (or_accepted s s' pair round).0 e in
      fails.fails (((sheet_accepted s' (second_loads pair) second).0 b).1 row fails.inside)

  -- the first values are side 0 and its first row exactly where that side fails first in the row
  pub or_rejected_first : ((others : List ℕ) × ((or_outcome (judge_or s s' round)).values ≡ 0 ∷ 0 ∷ row ∷ others))
      ↔ FailsFirst (instance_of s) (first_round round) row
  or_rejected_first = elim (or_ways s s' pair round passed) [
    | both a e ↦ (
      λ (others, same). absurd (values_accepted _ (sym (ap values_of e) ∙ same)),
      λ fails. absurd (accepted_first a fails),
    )
    | later mask a b e ↦
        let all = ((sheet_rejected s' (second_loads pair) second mask).0 b).1.0 in
        let (k, rest, whole, _, _) = fails_split (instance_of s') second (rows_of mask) all in
        let (more, values) = values_second mask k rest whole in (
          λ (others, same). absurd (omega (arith, other_side 1 0 k row more others (sym values ∙ sym (ap values_of e) ∙ same))),
          λ fails. absurd (accepted_first a fails),
        )
    | earlier mask mask' a e ↦
        let all = ((sheet_rejected s (first_loads pair) first mask).0 a).1.0 in
        let begin = fails_begin (instance_of s) first (rows_of mask) all in
        let (k, rest, whole, head, _) = fails_split (instance_of s) first (rows_of mask) all in
        let (more, values) = values_first mask mask' k rest whole in (
          λ (others, same). subst (FailsFirst (instance_of s) first) (other_row 0 0 k row more others (sym values ∙ sym (ap values_of e) ∙ same)) head,
          λ fails.
              let (others, same) = (begin row).0 fails in
              let (more', values') = values_first mask mask' row others same in
              (more', ap values_of e ∙ values'),
        )
  ]

  -- side 1 and its first row exactly where side 0 is accepted and side 1 fails first in the row
  pub or_rejected_second : ((others : List ℕ) × ((or_outcome (judge_or s s' round)).values ≡ 0 ∷ 1 ∷ row ∷ others))
      ↔ (Accepts s (first_round round) × FailsFirst (instance_of s') (second_round (instance_of s).header.challenges round) row)
  or_rejected_second = elim (or_ways s s' pair round passed) [
    | both a e ↦ (
      λ (others, same). absurd (values_accepted _ (sym (ap values_of e) ∙ same)),
      λ (accepted, fails). absurd (second_fails e fails),
    )
    | later mask a b e ↦
        let all = ((sheet_rejected s' (second_loads pair) second mask).0 b).1.0 in
        let begin = fails_begin (instance_of s') second (rows_of mask) all in
        let (k, rest, whole, head, _) = fails_split (instance_of s') second (rows_of mask) all in
        let (more, values) = values_second mask k rest whole in (
          λ (others, same). (
            a,
            subst (FailsFirst (instance_of s') second) (other_row 1 1 k row more others (sym values ∙ sym (ap values_of e) ∙ same)) head,
          ),
          λ (accepted, fails).
              let (others, same) = (begin row).0 fails in
              let (more', values') = values_second mask row others same in
              (more', ap values_of e ∙ values'),
        )
    | earlier mask mask' a e ↦
        let all = ((sheet_rejected s (first_loads pair) first mask).0 a).1.0 in
        let (k, rest, whole, head, _) = fails_split (instance_of s) first (rows_of mask) all in
        let (more, values) = values_first mask mask' k rest whole in (
          λ (others, same). absurd (omega (arith, other_side 0 1 k row more others (sym values ∙ sym (ap values_of e) ∙ same))),
          λ (accepted, fails). absurd (head.fails (((sheet_accepted s (first_loads pair) first).0 accepted).1 k head.inside)),
        )
  ]
