-- The refusals of the OR proof's calls: the number is that of the first condition that holds, and a refused call changes nothing.
-- Assumes nothing.
use Prim.Native.Nat.{ℕ, ◌<◌}
use mathlib.Core.Path.{◌≡◌, refl, sym, subst}
use mathlib.Core.Logic.{◌≢◌}
use mathlib.Core.Bool.{true}
use mathlib.Core.List.{List, ◌++◌}
use Rattle.types.specs.declared.Verdict.{Verdict}
use Rattle.types.specs.declared.Verdict.TheVariants.{Accepted, Rejected, Refused}
use Rattle.disjunctions.specs.declared.OrExtracted.{OrExtracted}
use Rattle.disjunctions.specs.declared.OrRound.{OrRound}
use Rattle.disjunctions.specs.declared.OrVerdict.TheVariants.{OrRefused}
use Rattle.lists.specs.Places.{zeros8}
use Rattle.rules.specs.Call.{Call, answer, number_of}
use Rattle.rules.specs.Condition.{Condition, Tests}
use Rattle.rules.specs.Order.{is_sublist, refusal_order, sheet_numbers}
use Rattle.rules.specs.Refuses.{Refuses, condition_numbers}
use Rattle.rules.proofs.Call.{answer_number, answer_refused}
use Rattle.rules.proofs.Condition.{given_behind}
use Rattle.rules.proofs.Refuses.{refuses_call, refuses_given}
use Rattle.formats.specs.Sheet.{instance_of}
use Rattle.formats.proofs.Loads.{loads_valid}
use Rattle.sigma.specs.Instance.{Instance}
use Rattle.sigma.specs.Valid.{Valid}
use Rattle.sigma.proofs.Verdict.{verdict_not_refused}
use Rattle.disjunctions.specs.Extractor.{extract_or, extracting_or}
use Rattle.disjunctions.specs.Judge.{combined, judge_or, judging_or, on_pair, pair_rules, verdict_or}
use Rattle.disjunctions.specs.OneOfTwo.{OrRefusals, OrUnmoved, or_number, or_outcome}
use Rattle.disjunctions.specs.Ours.{or_calls}
use Rattle.disjunctions.specs.Prover.{commit_or, committing_or, drop_or, dropping_or, respond_or, responding_or}
use Rattle.disjunctions.specs.Refusals.{pair_conditions}
use Rattle.disjunctions.proofs.OnPair.{pair_loads}
use Rattle.disjunctions.proofs.SessionTests.{commit_or_tests, drop_or_tests, respond_or_tests}
use Rattle.disjunctions.proofs.Tests.{extract_or_tests, judge_or_tests, pair_tests}

-- demand 1 of a call on two sheets: its refusals test its conditions if both sheets load, its answer has the number in a place of its
-- own, and what a refused call hands back is what is asked of it
refuses_on_pair : (s s' : List ℕ) (numbers : List ℕ) (conditions : List Condition) {A : Type 0} (call : Call A) (number : A → ℕ)
    (Left : A → Type 0) → condition_numbers (pair_conditions s s' ++ conditions) ≡ numbers → is_sublist numbers refusal_order ≡ true
    → (Valid (instance_of s) → Valid (instance_of s') → Tests call.refusals conditions)
    → number call.value ≡ 0 → ((n : ℕ) → number (call.refused n) ≡ n) → ((n : ℕ) → 0 < n → Left (call.refused n))
    → Refuses numbers (pair_conditions s s' ++ conditions) (number (answer (on_pair s s' call))) (Left (answer (on_pair s s' call)))
unfolding number_of
refuses_on_pair s s' numbers conditions call number Left numbered ordered tests none some left =
    let whole = on_pair s s' call in
    let gives = given_behind (pair_rules s s') call.refusals (pair_conditions s s') conditions (pair_tests s s')
    (λ clear. let both = pair_loads s s' clear in tests (loads_valid s both.0) (loads_valid s' both.1)) in
    subst (λ (n : ℕ). Refuses numbers (pair_conditions s s' ++ conditions) n (Left (answer whole)))
    (sym (answer_number whole number none some))
    (refuses_given numbers (pair_conditions s s' ++ conditions) numbered ordered (number_of whole) gives
    (λ above. subst Left (sym (answer_refused whole above)) (left (number_of whole) above)))

-- ---- judging

-- verdicts on values are no refusals
or_not_refused : (v w : Verdict) → ((k : ℕ) → v ≢ Refused k) → ((k : ℕ) → w ≢ Refused k) → or_number (combined v w) ≡ 0
unfolding or_number or_outcome combined
or_not_refused Accepted Accepted f g = refl
or_not_refused Accepted (Rejected mask) f g = refl
or_not_refused Accepted (Refused number) f g = absurd (g number refl)
or_not_refused (Rejected mask) Accepted f g = refl
or_not_refused (Rejected mask) (Rejected mask') f g = refl
or_not_refused (Rejected mask) (Refused number) f g = absurd (g number refl)
or_not_refused (Refused number) w f g = absurd (f number refl)

module _ (i j : Instance) (round : OrRound) where
  -- the verdict on a round's values is no refusal
  pub verdict_or_number : or_number (verdict_or i j round) ≡ 0
  unfolding verdict_or
  verdict_or_number = or_not_refused _ _ (verdict_not_refused i _ _ _) (verdict_not_refused j _ _ _)

-- ---- all calls

pub or_refusals : OrRefusals or_calls
unfolding condition_numbers is_sublist refusal_order sheet_numbers or_number or_outcome judge_or judging_or extract_or extracting_or
    commit_or committing_or respond_or responding_or drop_or dropping_or
or_refusals = record {
  judging = λ s s' round.
      refuses_on_pair s s' _ _ (judging_or (instance_of s) (instance_of s') round) or_number (λ v. v ≡ OrRefused (or_number v)) refl refl
      (λ v w. judge_or_tests (instance_of s) (instance_of s') round) (verdict_or_number (instance_of s) (instance_of s') _) (λ n. refl)
      (λ n some. refl);
  extracting = λ s s' a b.
      refuses_on_pair s s' _ _ (extracting_or (instance_of s) (instance_of s') a b) (λ (e : OrExtracted). e.refusal)
      (λ e. (e.values ≡ zeros8) × (e.side ≡ 0)) refl refl
      (λ v w. extract_or_tests v w a b) refl (λ n. refl) (λ n some. (refl, refl));
  committing = λ s s' p side k d r.
      refuses_on_pair s s' _ _ (committing_or (instance_of s) (instance_of s') p side k d r) (λ step. step.refusal) (OrUnmoved p) refl refl
      (λ v w. commit_or_tests (instance_of s) (instance_of s') p side k d r) refl (λ n. refl) (λ n some. (refl, refl, refl, refl));
  responding = λ s s' p c x.
      refuses_on_pair s s' _ _ (responding_or (instance_of s) (instance_of s') p c x) (λ step. step.refusal) (OrUnmoved p) refl refl
      (λ v w. respond_or_tests v w p c x) refl (λ n. refl) (λ n some. (refl, refl, refl, refl));
  dropping = λ p.
      refuses_call _ _ refl refl (dropping_or p) (λ step. step.refusal) refl (λ n. refl) (OrUnmoved p) (drop_or_tests p)
      (λ n. (refl, refl, refl, refl));
}
