-- What a call answers, by the number that stands in the answer; and what two calls with one number answer alike.
-- Assumes nothing.
use Prim.Native.Nat.{ℕ, ◌<◌}
use mathlib.Core.Path.{◌≡◌, sym, ap, ◌∙◌}
use mathlib.Core.Logic.{◌↔◌}
use mathlib.Core.List.{List}
use lib.Dec.{T}
use Rattle.rules.specs.Answer.{unless_refused}
use Rattle.rules.specs.Call.{Call, after, answer, number_of}
use Rattle.rules.specs.Condition.{Condition, Given, Tests}
use Rattle.rules.specs.Rule.{Clear, Rule, all_positive, lowest}
use Rattle.rules.proofs.Call.{answer_number, answer_read, answer_refused, answer_value, number_given}
use Rattle.rules.proofs.Lowest.{lowest_append_zero, lowest_zero}

module _ {A : Type 0} (call : Call A) where
  module _ (number : A → ℕ) (none : number call.value ≡ 0) (some : (n : ℕ) → number (call.refused n) ≡ n) where
    -- an answer with the number 0 is the value
    pub told_value : number (answer call) ≡ 0 → answer call ≡ call.value
    told_value is_zero = answer_value call (sym (answer_number call number none some) ∙ is_zero)

    -- one with a number above 0 is what a refused call hands back with it
    pub told_refused : 0 < number (answer call) → answer call ≡ call.refused (number (answer call))
    told_refused positive =
        let same = answer_number call number none some in
        answer_refused call (rw same at positive) ∙ ap call.refused (sym same)

    -- the number is that of the first condition that holds, if the refusals test these conditions
    pub told_given : (conditions : List Condition) → Tests call.refusals conditions → Given conditions (number (answer call))
    told_given conditions tests = rw (answer_number call number none some) (number_given call conditions tests)

    -- it is 0 exactly if no refusal applies
    pub told_clear : T (all_positive call.refusals) → (number (answer call) ≡ 0) ↔ Clear call.refusals
    unfolding number_of
    told_clear positive = rw (answer_number call number none some) (lowest_zero call.refusals positive)

    -- with other refusals in front it is 0 exactly if none of these applies either
    pub told_after : (before : List Rule) → T (all_positive before) → T (all_positive call.refusals)
        → (number (answer (after before call)) ≡ 0) ↔ ((lowest before ≡ 0) × Clear call.refusals)
    unfolding number_of
    told_after before earlier positive =
        rw (answer_number (after before call) number none some) (lowest_append_zero before call.refusals earlier positive)

-- what is read alike off the values of two calls with one number, and off what they hand back, is read alike off their answers
pub read_alike : {A A' B : Type 0} (call : Call A) (call' : Call A') (read : A → B) (read' : A' → B)
    → number_of call ≡ number_of call' → read call.value ≡ read' call'.value
    → ((n : ℕ) → read (call.refused n) ≡ read' (call'.refused n)) → read (answer call) ≡ read' (answer call')
read_alike call call' read read' number value refused =
    answer_read call read
    ∙ (λ i. unless_refused (number i) (value i) (refused (number i) i))
    ∙ sym (answer_read call' read')
