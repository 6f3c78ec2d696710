-- A verdict's three numbers tell it: no two verdicts that calls give have the same.
-- Assumes nothing.
use Prim.Native.Nat.{ℕ, ◌^◌, ◌<◌}
use mathlib.Core.Path.{◌≡◌, refl, sym, ap, ◌∙◌}
use mathlib.Core.Logic.{◌↔◌, ◌≢◌}
use mathlib.Core.List.{List}
use native.Mathlib.Omega.{arith}
use lib.Pow.{pow_pos}
use Rattle.types.specs.declared.Round.{Round}
use Rattle.types.specs.declared.Verdict.{Verdict}
use Rattle.types.specs.declared.Verdict.TheVariants.{Accepted, Rejected, Refused}
use Rattle.types.specs.declared.Verifier.{Verifier}
use Rattle.types.specs.declared.VerifierVerdict.{VerifierVerdict}
use Rattle.rules.specs.Call.{answer}
use Rattle.formats.specs.Load.{load_refusal}
use Rattle.formats.specs.Sheet.{instance_of}
use Rattle.sigma.specs.Answer.{outcome, judged}
use Rattle.sigma.specs.Judge.{judging}
use Rattle.sigma.proofs.Answer.{judged_refused}
use Rattle.sigma.proofs.Calls.{judge_not_refused}
use Rattle.sigma.proofs.Verdict.{verdict_not_refused}
use Rattle.runs.specs.Calls.{judge_round}
use Rattle.runs.specs.Verifier.{take_response, taking_response}
use Rattle.runs.proofs.Protocol.{protocol}
use Rattle.runs.proofs.VerifierSteps.{take_response_value}
use Rattle.crossing.specs.Verdicts.{judgement}
use Rattle.crossing.specs.declared.Judgement.{Judgement}

-- the number is that of the verdict's outcome
pub judgement_number : (v : Verdict) → (judgement v).refusal ≡ (outcome v).number
unfolding judgement outcome
judgement_number Accepted = refl
judgement_number (Rejected mask) = refl
judgement_number (Refused number) = refl

-- a round is accepted exactly where accepted is 1
pub accepted_told : (v : Verdict) → ((judgement v).accepted ≡ 1) ↔ (v ≡ Accepted)
unfolding judgement
accepted_told v = (accepted v, ap (λ (v : Verdict). (judgement v).accepted))
  where
    accepted : (v : Verdict) → (judgement v).accepted ≡ 1 → v ≡ Accepted
    accepted Accepted e = refl
    accepted (Rejected mask) e = absurd (omega arith)
    accepted (Refused number) e = absurd (omega arith)

-- two verdicts with the same three numbers are the same, if neither is a refusal with 0
pub judgement_injective : (v w : Verdict) → v ≢ Refused 0 → w ≢ Refused 0 → judgement v ≡ judgement w → v ≡ w
unfolding judgement
judgement_injective v w some some' e =
    compare v w some some' (ap (λ (j : Judgement). j.refusal) e) (ap (λ (j : Judgement). j.accepted) e)
    (ap (λ (j : Judgement). j.rows) e)
  where
    compare : (v w : Verdict) → v ≢ Refused 0 → w ≢ Refused 0 → (judgement v).refusal ≡ (judgement w).refusal
        → (judgement v).accepted ≡ (judgement w).accepted → (judgement v).rows ≡ (judgement w).rows → v ≡ w
    compare Accepted Accepted s t a b c = refl
    compare Accepted (Rejected mask) s t a b c = absurd (omega arith)
    compare Accepted (Refused n) s t a b c = absurd (omega arith)
    compare (Rejected mask) Accepted s t a b c = absurd (omega arith)
    compare (Rejected mask) (Rejected mask') s t a b c = ap Rejected c
    compare (Rejected mask) (Refused n) s t a b c = absurd (t (ap Refused (sym a)))
    compare (Refused n) Accepted s t a b c = absurd (omega arith)
    compare (Refused n) (Rejected mask) s t a b c = absurd (s (ap Refused a))
    compare (Refused n) (Refused n') s t a b c = ap Refused a

-- no call refuses with 0
judged_not_zero : (n : ℕ) (v : Verdict) → ((k : ℕ) → v ≢ Refused k) → judged n v ≢ Refused 0
judged_not_zero n v never e = let some : 0 < 0 = ((judged_refused n v 0 never).0 e).0 in omega arith

-- judging does not
pub judge_not_zero : (sheet : List ℕ) (round : Round) → judge_round sheet round ≢ Refused 0
unfolding judge_round judging answer judged
judge_not_zero sheet round = judged_not_zero _ _ (judge_not_refused (instance_of sheet) round)

-- nor does Vic's session
pub response_not_zero : (sheet : List ℕ) (v : Verifier) (r : List ℕ) → (take_response sheet v r).verdict ≢ Refused 0
unfolding taking_response outcome
response_not_zero sheet v r e =
    let given = take_response_value sheet v r (ap (λ (w : Verdict). (outcome w).number) e) in
    verdict_not_refused (instance_of sheet) _ _ _ 0 (sym (ap (λ (told : VerifierVerdict). told.verdict) given) ∙ e)

-- no bit is set of a row that the sheet does not have
pub judgement_inside : (sheet : List ℕ) → load_refusal sheet ≡ 0 → (round : Round)
    → (judgement (judge_round sheet round)).rows < 2 ^ (instance_of sheet).header.rows
unfolding judgement outcome
judgement_inside sheet loads round = inside (judge_round sheet round) refl
  where
    inside : (v : Verdict) → judge_round sheet round ≡ v → (judgement v).rows < 2 ^ (instance_of sheet).header.rows
    inside Accepted e = pow_pos _
    inside (Rejected mask) e =
        ((((protocol sheet loads).verdicts round (ap (λ (v : Verdict). (outcome v).number) e)).rejected mask).0 e).1
    inside (Refused number) e = pow_pos _
