-- The number of a verdict's outcome: 0 for one that is no refusal, else the refusal's.
-- Assumes nothing.
use Prim.Native.Nat.{ℕ, zero, suc, ◌<◌}
use mathlib.Core.Path.{◌≡◌, refl, sym, ap, ◌∙◌}
use mathlib.Core.Logic.{◌≢◌, ◌⊎◌, inl, inr}
use native.Mathlib.Omega.{arith}
use Rattle.types.specs.declared.Verdict.{Verdict}
use Rattle.types.specs.declared.Verdict.TheVariants.{Accepted, Rejected, Refused}
use Rattle.sigma.specs.Answer.{outcome, judged}
use Rattle.sigma.proofs.Answer.{judged_zero, judged_positive}

-- the number of a verdict that is no refusal
pub decided_number : (v : Verdict) → ((k : ℕ) → v ≢ Refused k) → (outcome v).number ≡ 0
unfolding outcome
decided_number Accepted f = refl
decided_number (Rejected mask) f = refl
decided_number (Refused k) f = absurd (f k refl)

-- the number of a verdict's outcome, where the verdict itself is no refusal
pub judged_number : (n : ℕ) (v : Verdict) → ((k : ℕ) → v ≢ Refused k) → (outcome (judged n v)).number ≡ n
unfolding outcome
judged_number zero v u = ap (λ (w : Verdict). (outcome w).number) (judged_zero v) ∙ decided_number v u
judged_number (suc n) v u = rw (judged_positive (suc n) v (omega arith))

-- a verdict whose outcome has a number is that refusal
pub judged_kept : (n : ℕ) (v : Verdict) → ((k : ℕ) → v ≢ Refused k) → 0 < (outcome (judged n v)).number
    → judged n v ≡ Refused (outcome (judged n v)).number
judged_kept n v u some = rw (judged_number n v u) (judged_positive n v (rw (judged_number n v u) at some))

-- a verdict whose outcome has the number 0 is accepted or rejected
pub judged_decided : (n : ℕ) (v : Verdict) → ((k : ℕ) → v ≢ Refused k) → (outcome (judged n v)).number ≡ 0
    → (judged n v ≡ Accepted) ⊎ ((mask : ℕ) × (judged n v ≡ Rejected mask))
judged_decided n v u e =
    let same : judged n v ≡ v = ap (λ (k : ℕ). judged k v) (sym (judged_number n v u) ∙ e) ∙ judged_zero v in
    rw same (decide v u)
  where
    decide : (w : Verdict) → ((k : ℕ) → w ≢ Refused k) → (w ≡ Accepted) ⊎ ((mask : ℕ) × (w ≡ Rejected mask))
    decide Accepted f = inl refl
    decide (Rejected mask) f = inr (mask, refl)
    decide (Refused k) f = absurd (f k refl)
