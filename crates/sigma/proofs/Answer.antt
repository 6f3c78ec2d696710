-- Answers: each verdict has its outcome, and a refusal's number decides between a value and a refusal.
-- Assumes nothing.
use Prim.Native.Nat.{ℕ, zero, suc, ◌<◌}
use mathlib.Core.Path.{◌≡◌, refl, sym, ap, ◌∙◌}
use mathlib.Core.Logic.{◌↔◌, ◌≢◌}
use mathlib.Core.List.{List}
use native.Mathlib.Omega.{arith}
use Rattle.types.specs.declared.Verdict.{Verdict}
use Rattle.types.specs.declared.Verdict.TheVariants.{Accepted, Rejected, Refused}
use Rattle.lists.specs.Places.{pad8, zeros8}
use Rattle.rules.proofs.Answer.{unless_refused_zero, unless_refused_positive}
use Rattle.sigma.specs.Answer.{outcome, VerdictOutcomes, judged, eight_places, computed}
use Rattle.sigma.proofs.Rows.{rows_digit, rows_rising}

-- each verdict has its outcome
pub verdict_outcomes : VerdictOutcomes
unfolding outcome
verdict_outcomes = record {
  accepted = refl;
  rejected = λ mask. refl;
  refused = λ number. refl;
  rows = rows_digit;
  rising = rows_rising;
}

-- a verdict that nothing refuses
pub judged_zero : (v : Verdict) → judged 0 v ≡ v
unfolding judged
judged_zero v = unless_refused_zero v (Refused 0)

-- a verdict that is refused
pub judged_positive : (n : ℕ) (v : Verdict) → 0 < n → judged n v ≡ Refused n
unfolding judged
judged_positive n v h = unless_refused_positive v (Refused n) n h

-- accepted is no refusal
pub accepted_not_refused : (k : ℕ) → Accepted ≢ Refused k
accepted_not_refused k e = let z : ◌≡◌ {A = ℕ} 0 1 = cc in omega arith

-- rejected is no refusal
pub rejected_not_refused : (mask k : ℕ) → Rejected mask ≢ Refused k
rejected_not_refused mask k e = let z : ◌≡◌ {A = ℕ} 0 1 = cc in omega arith

-- a verdict w that is no refusal is given exactly where nothing is refused and w is the verdict
pub judged_given : (n : ℕ) (v w : Verdict) → ((k : ℕ) → w ≢ Refused k) → (judged n v ≡ w) ↔ ((n ≡ 0) × (v ≡ w))
judged_given zero v w u = (λ e. (refl, sym (judged_zero v) ∙ e), λ x. judged_zero v ∙ x.1)
judged_given (suc n) v w u =
    (λ e. absurd (u (suc n) (sym e ∙ judged_positive (suc n) v (omega arith))), λ x. absurd (omega arith))

-- of a verdict that is no refusal, exactly a refusal's number above 0 makes one
pub judged_refused : (n : ℕ) (v : Verdict) (k : ℕ) → ((l : ℕ) → v ≢ Refused l) → (judged n v ≡ Refused k) ↔ ((0 < k) × (n ≡ k))
judged_refused zero v k u = (λ e. absurd (u k (sym (judged_zero v) ∙ e)), λ x. absurd (omega arith))
judged_refused (suc n) v k u =
    let given = judged_positive (suc n) v (omega arith) in
    (λ e. let same : suc n ≡ k = cc (given) in (omega arith, same), λ x. given ∙ ap Refused x.1)

-- values that nothing refuses
pub computed_zero : (xs : List ℕ) → computed 0 xs ≡ record { refusal = 0; values = pad8 0 xs }
unfolding computed eight_places
computed_zero xs = rw (unless_refused_zero (pad8 0 xs) zeros8)

-- values that are refused
pub computed_positive : (n : ℕ) (xs : List ℕ) → 0 < n → computed n xs ≡ record { refusal = n; values = zeros8 }
unfolding computed eight_places
computed_positive n xs h = rw (unless_refused_positive (pad8 0 xs) zeros8 n h)

-- where the number is 0, the values are given
pub computed_given : (n : ℕ) (xs : List ℕ) → (computed n xs).refusal ≡ 0 → computed n xs ≡ record { refusal = 0; values = pad8 0 xs }
unfolding computed
computed_given n xs e = rw e (computed_zero xs)
