-- A verdict's four numbers on a round of the OR proof tell it: no two verdicts that judging gives have the same.
-- Assumes nothing.
use Prim.Native.Nat.{ℕ, zero, suc}
use mathlib.Core.Path.{◌≡◌, refl, sym, ap, ◌∙◌}
use mathlib.Core.Logic.{◌↔◌, ◌≢◌}
use mathlib.Core.List.{List}
use native.Mathlib.Omega.{arith}
use Rattle.types.specs.declared.Verdict.{Verdict}
use Rattle.types.specs.declared.Verdict.TheVariants.{Accepted, Rejected, Refused}
use Rattle.rules.specs.Answer.{unless_refused}
use Rattle.rules.specs.Call.{answer}
use Rattle.rules.proofs.Answer.{unless_refused_zero, unless_refused_positive}
use Rattle.sigma.proofs.Verdict.{verdict_not_refused}
use Rattle.disjunctions.specs.declared.OrRound.{OrRound}
use Rattle.disjunctions.specs.declared.OrVerdict.{OrVerdict}
use Rattle.disjunctions.specs.declared.OrVerdict.TheVariants.{OrAccepted, OrRejected, OrRefused}
use Rattle.disjunctions.specs.Judge.{combined, judge_or, judging_or, verdict_or}
use Rattle.or_crossing.specs.Verdicts.{or_judgement}
use Rattle.or_crossing.specs.declared.OrJudgement.{OrJudgement}

-- a round is accepted exactly where accepted is 1
pub or_accepted_told : (v : OrVerdict) → ((or_judgement v).accepted ≡ 1) ↔ (v ≡ OrAccepted)
unfolding or_judgement
or_accepted_told v = (accepted v, ap (λ (v : OrVerdict). (or_judgement v).accepted))
  where
    accepted : (v : OrVerdict) → (or_judgement v).accepted ≡ 1 → v ≡ OrAccepted
    accepted OrAccepted e = refl
    accepted (OrRejected mask0 mask1) e = absurd (omega arith)
    accepted (OrRefused number) e = absurd (omega arith)

-- two verdicts with the same four numbers are the same, if neither is a refusal with 0
pub or_judgement_injective : (v w : OrVerdict) → v ≢ OrRefused 0 → w ≢ OrRefused 0 → or_judgement v ≡ or_judgement w → v ≡ w
unfolding or_judgement
or_judgement_injective v w some some' e =
    compare v w some some' (ap (λ (j : OrJudgement). j.refusal) e) (ap (λ (j : OrJudgement). j.accepted) e)
    (ap (λ (j : OrJudgement). j.rows0) e) (ap (λ (j : OrJudgement). j.rows1) e)
  where
    compare : (v w : OrVerdict) → v ≢ OrRefused 0 → w ≢ OrRefused 0 → (or_judgement v).refusal ≡ (or_judgement w).refusal
        → (or_judgement v).accepted ≡ (or_judgement w).accepted → (or_judgement v).rows0 ≡ (or_judgement w).rows0
        → (or_judgement v).rows1 ≡ (or_judgement w).rows1 → v ≡ w
    compare OrAccepted OrAccepted s t a b c d = refl
    compare OrAccepted (OrRejected mask0 mask1) s t a b c d = absurd (omega arith)
    compare OrAccepted (OrRefused n) s t a b c d = absurd (omega arith)
    compare (OrRejected mask0 mask1) OrAccepted s t a b c d = absurd (omega arith)
    compare (OrRejected mask0 mask1) (OrRejected mask0' mask1') s t a b c d = rw (c, d)
    compare (OrRejected mask0 mask1) (OrRefused n) s t a b c d = absurd (t (ap OrRefused (sym a)))
    compare (OrRefused n) OrAccepted s t a b c d = absurd (omega arith)
    compare (OrRefused n) (OrRejected mask0 mask1) s t a b c d = absurd (s (ap OrRefused a))
    compare (OrRefused n) (OrRefused n') s t a b c d = ap OrRefused a

-- verdicts on both sides that are no refusals give none
combined_not_refused : (v w : Verdict) → ((k : ℕ) → v ≢ Refused k) → ((k : ℕ) → w ≢ Refused k) → (k : ℕ) → combined v w ≢ OrRefused k
unfolding combined
combined_not_refused Accepted Accepted f g k e = let z : ◌≡◌ {A = ℕ} 0 1 = cc in omega arith
combined_not_refused Accepted (Rejected mask) f g k e = let z : ◌≡◌ {A = ℕ} 0 1 = cc in omega arith
combined_not_refused Accepted (Refused number) f g k e = g number refl
combined_not_refused (Rejected mask) Accepted f g k e = let z : ◌≡◌ {A = ℕ} 0 1 = cc in omega arith
combined_not_refused (Rejected mask) (Rejected mask') f g k e = let z : ◌≡◌ {A = ℕ} 0 1 = cc in omega arith
combined_not_refused (Rejected mask) (Refused number) f g k e = g number refl
combined_not_refused (Refused number) w f g k e = f number refl

-- the number of a refusal is not 0
refusal_not_zero : (n : ℕ) (v : OrVerdict) → ((k : ℕ) → v ≢ OrRefused k) → unless_refused n v (OrRefused n) ≢ OrRefused 0
refusal_not_zero zero v never e = never 0 (sym (unless_refused_zero v (OrRefused 0)) ∙ e)
refusal_not_zero (suc n) v never e =
    let given = unless_refused_positive v (OrRefused (suc n)) (suc n) (omega arith) in
    let same : suc n ≡ 0 = cc (given) in omega arith

-- judging does not refuse with 0
pub judge_or_not_zero : (s s' : List ℕ) (round : OrRound) → judge_or s s' round ≢ OrRefused 0
unfolding judge_or judging_or verdict_or answer
judge_or_not_zero s s' round =
    refusal_not_zero _ _ (combined_not_refused _ _ (verdict_not_refused _ _ _ _) (verdict_not_refused _ _ _ _))
