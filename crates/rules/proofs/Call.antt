-- What every call answers: its value if no refusal applies, else what it hands back with the number of the first that does. With
-- other refusals put in front it is the same call if none of these applies, and else is refused with their number.
-- Assumes nothing.
use Prim.Native.Nat.{ℕ, zero, suc, ◌<◌}
use mathlib.Core.Path.{◌≡◌, sym, ap, ◌∙◌}
use mathlib.Core.Logic.{◌≢◌}
use mathlib.Core.List.{List}
use native.Mathlib.Omega.{arith}
use Rattle.rules.specs.Answer.{unless_refused}
use Rattle.rules.specs.Call.{Call, after, answer, number_of}
use Rattle.rules.specs.Condition.{Condition, Given, Tests}
use Rattle.rules.specs.Rule.{Clear, Rule, lowest}
use Rattle.rules.proofs.Answer.{unless_refused_zero, unless_refused_positive}
use Rattle.rules.proofs.Condition.{given}
use Rattle.rules.proofs.Lowest.{lowest_clear, lowest_earlier, lowest_later}

module _ {A : Type 0} (call : Call A) where
  -- the number is that of the first condition that holds, if the refusals test these conditions
  pub number_given : (conditions : List Condition) → Tests call.refusals conditions → Given conditions (number_of call)
  unfolding number_of
  number_given conditions tests = given call.refusals conditions tests

  -- the number is 0 if no refusal applies
  pub number_clear : Clear call.refusals → number_of call ≡ 0
  unfolding number_of
  number_clear none = lowest_clear call.refusals none

  -- a call that is not refused answers its value
  pub answer_value : number_of call ≡ 0 → answer call ≡ call.value
  unfolding answer
  answer_value none = rw none (unless_refused_zero _ _)

  -- so does one of which no refusal applies
  pub answer_clear : Clear call.refusals → answer call ≡ call.value
  answer_clear none = answer_value (number_clear none)

  -- a refused call answers what it hands back with the number
  pub answer_refused : 0 < number_of call → answer call ≡ call.refused (number_of call)
  unfolding answer
  answer_refused some = unless_refused_positive _ _ (number_of call) some

  -- a number that was found and is not 0 makes what is handed back the answer
  pub tested_refused : {n : ℕ} → n ≡ number_of call → n ≢ 0 → call.refused n ≡ answer call
  tested_refused tested some = ap call.refused tested ∙ sym (answer_refused (omega (arith, tested)))

  -- and one that is 0 makes the value the answer
  pub tested_value : {n : ℕ} → n ≡ number_of call → n ≡ 0 → call.value ≡ answer call
  tested_value tested none = sym (answer_value (sym tested ∙ none))

  -- what is read off the answer is read off the value or off what a refused call hands back
  pub answer_read : {B : Type 0} (read : A → B)
      → read (answer call) ≡ unless_refused (number_of call) (read call.value) (read (call.refused (number_of call)))
  unfolding answer
  answer_read read = choose (number_of call)
    where
      choose : (n : ℕ) → read (unless_refused n call.value (call.refused n)) ≡ unless_refused n (read call.value) (read (call.refused n))
      choose zero = ap read (unless_refused_zero _ _) ∙ sym (unless_refused_zero _ _)
      choose (suc n) = ap read (unless_refused_positive _ _ (suc n) (omega arith)) ∙ sym (unless_refused_positive _ _ (suc n) (omega arith))

  -- the number that stands in the answer is the call's, if a value has 0 there and a refused call its number
  pub answer_number : (number : A → ℕ) → number call.value ≡ 0 → ((n : ℕ) → number (call.refused n) ≡ n)
      → number (answer call) ≡ number_of call
  unfolding answer
  answer_number number none some = choose (number_of call)
    where
      choose : (n : ℕ) → number (unless_refused n call.value (call.refused n)) ≡ n
      choose zero = ap number (unless_refused_zero _ _) ∙ none
      choose (suc n) = ap number (unless_refused_positive _ _ (suc n) (omega arith)) ∙ some (suc n)

  -- refusals in front of which none applies do not count
  pub after_clear : (before : List Rule) → Clear before → answer (after before call) ≡ answer call
  unfolding answer number_of
  after_clear before none = rw (lowest_later before call.refusals none)

  -- refusals in front of which one applies give the number
  pub after_refused : (before : List Rule) → 0 < lowest before → answer (after before call) ≡ call.refused (lowest before)
  unfolding answer number_of
  after_refused before some =
      rw (lowest_earlier before call.refusals some) (unless_refused_positive _ _ (lowest before) some)

-- calls with the same number, value and answers to a refusal answer the same
pub answer_same : {A : Type 0} (call call' : Call A) → number_of call ≡ number_of call' → call.value ≡ call'.value
    → call.refused ≡ call'.refused → answer call ≡ answer call'
unfolding answer
answer_same call call' number value refused = rw (number, value, refused)
