-- Every verdict that rejects carries exactly the rows whose two sides differ: judging, Vic's response and both sides of an OR round.
-- Assumes nothing.
use Prim.Native.Nat.{ℕ, ◌+◌, ◌<◌}
use mathlib.Core.Path.{◌≡◌, sym, ap, subst, ◌∙◌}
use mathlib.Core.Bool.{false≢true}
use mathlib.Core.Logic.Iff
use mathlib.Core.Logic.{◌⊎◌, inl, inr, ⊎_elim}
use mathlib.Core.List.{List}
use native.Mathlib.Omega.{arith}
use Rattle.types.specs.declared.Round.{Round}
use Rattle.types.specs.declared.Verdict.{Verdict}
use Rattle.types.specs.declared.Verdict.TheVariants.{Accepted, Rejected}
use Rattle.disjunctions.specs.declared.OrRound.{OrRound}
use Rattle.disjunctions.specs.declared.OrVerdict.TheVariants.{OrAccepted, OrRejected}
use Rattle.numbers.proofs.Bits.{bit_beyond, bit_digit}
use Rattle.formats.specs.Load.{load, load_refusal}
use Rattle.formats.specs.Ours.{file_calls}
use Rattle.formats.specs.Sheet.{instance_of}
use Rattle.formats.proofs.Loads.{loads_valid}
use Rattle.sigma.specs.Answer.{outcome}
use Rattle.sigma.specs.Meaning.{Holds}
use Rattle.sigma.specs.Reads.{round_of}
use Rattle.sigma.proofs.Fails.{FailsInBits, fails_bits}
use Rattle.sigma.proofs.Rows.{rows_some}
use Rattle.runs.specs.Calls.{judge_round}
use Rattle.runs.specs.Ours.{run_calls}
use Rattle.runs.proofs.Protocol.{fits_judged, sheet_accepted, sheet_rejected, verdicts}
use Rattle.runs.proofs.Verdicts.{take_response_given}
use Rattle.disjunctions.proofs.Pairs.{first_loads, second_loads}
use Rattle.disjunctions.specs.Judge.{judge_or}
use Rattle.disjunctions.specs.OneOfTwo.{or_number}
use Rattle.disjunctions.specs.Ours.{Pair, SideMask, or_calls}
use Rattle.disjunctions.specs.Round.{first_round, second_round}
use Rattle.disjunctions.proofs.Judged.{Ways, both, earlier, later, or_accepted, or_rejected, or_ways}
use Rattle.demands.specs.AllRows.{AllRows, Differing, VerdictRows}

-- ---- one sheet

module _ (sheet : List ℕ) (loaded : load_refusal sheet ≡ 0) (round : Round) where
  -- bits as digits
  digits_differ : (mask : ℕ) → FailsInBits (instance_of sheet) round mask → Differing sheet round mask
  digits_differ mask bits i = Iff.trans (Iff.symm (bit_digit mask i)) (bits i)

  -- the rows of a rejected round
  rejected_differ : (mask : ℕ) → judge_round sheet round ≡ Rejected mask → (0 < mask) × Differing sheet round mask
  rejected_differ mask e =
      let (all, small) = ((sheet_rejected sheet loaded round mask).0 e).1 in
      let few = (loads_valid sheet loaded).table.few_rows in
      (rows_some mask all.some, digits_differ mask (fails_bits (instance_of sheet) round few mask all small))

  -- an accepted round has none
  accepted_differ : judge_round sheet round ≡ Accepted → Differing sheet round 0
  accepted_differ e =
      let holds = ((sheet_accepted sheet loaded round).0 e).1 in
      digits_differ 0 (λ i. (
        λ set. absurd (false≢true (sym (bit_beyond 0 0 i (omega arith) (omega arith)) ∙ set)),
        λ (inside, fails). absurd (fails (holds i inside)),
      ))

  -- a verdict that is not refused
  judged_rows : (outcome (judge_round sheet round)).number ≡ 0 → VerdictRows sheet round (judge_round sheet round)
  judged_rows passed =
      let rows = verdicts sheet loaded round passed in
      ⊎_elim (λ e. inl (e, rows.accepted.0 e)) (λ (mask, e). let (some, bits) = rejected_differ mask e in inr (mask, e, some, bits))
      rows.decided

-- ---- two sheets

-- the rows of a side
side_differ : (s : List ℕ) → load_refusal s ≡ 0 → (round : Round) (mask : ℕ) → SideMask s round mask → Differing s round mask
side_differ s loaded round mask (inl (e, none)) = subst (Differing s round) (sym none) (accepted_differ s loaded round e)
side_differ s loaded round mask (inr e) = (rejected_differ s loaded round mask e).1

module _ (s s' : List ℕ) (pair : Pair s s') (round : OrRound) (passed : or_number (judge_or s s' round) ≡ 0) where
  -- the two sides
  abbrev first : Round
  first = first_round round

  abbrev second : Round
  second = second_round (instance_of s).header.challenges round

  -- where one of them has a row, the round is rejected with the rows of both
  abbrev Rejects : Type 0
  Rejects =
      (mask0 : ℕ) × (mask1 : ℕ) × (judge_or s s' round ≡ OrRejected mask0 mask1) × (0 < mask0 + mask1)
      × Differing s first mask0 × Differing s' second mask1

  rejects : (mask0 mask1 : ℕ) → judge_or s s' round ≡ OrRejected mask0 mask1 → 0 < mask0 + mask1 → Rejects
  unfolding load
  rejects mask0 mask1 e some =
      let (a, b, other) = (or_rejected s s' pair round mask0 mask1 passed).0 e in (
        mask0,
        mask1,
        e,
        some,
        side_differ s (first_loads pair) first mask0 a,
        side_differ s' (second_loads pair) second mask1 b,
      )

  -- the three ways
  either_way : Ways s s' round
      → ((judge_or s s' round ≡ OrAccepted) × Holds (instance_of s) (first_round round)
      × Holds (instance_of s') (second_round (instance_of s).header.challenges round)) ⊎ Rejects
  unfolding load
  either_way (both a w) =
      let (small, x, y) = (or_accepted s s' pair round).0 w in
      inl (w, ((sheet_accepted s (first_loads pair) first).0 x).1, ((sheet_accepted s' (second_loads pair) second).0 y).1)
  either_way (later mask a b w) = inr (rejects 0 mask w (omega (arith, (rejected_differ s' (second_loads pair) second mask b).0)))
  either_way (earlier mask mask' a w) =
      inr (rejects mask mask' w (omega (arith, (rejected_differ s (first_loads pair) first mask a).0)))

pub all_rows : AllRows file_calls run_calls or_calls
unfolding load
all_rows = record {
  judged = λ sheet loaded round fits. judged_rows sheet loaded round (fits_judged sheet loaded round fits);
  in_session = λ sheet loaded v r passed.
      let round = round_of v.commitment v.challenge r in
      let same = take_response_given sheet v r passed in
      let number = ap (λ (w : Verdict). (outcome w).number) (sym same) ∙ passed in
      subst (VerdictRows sheet round) (sym same) (judged_rows sheet loaded round number);
  both_sides = λ s s' pair round passed. either_way s s' pair round passed (or_ways s s' pair round passed);
}
