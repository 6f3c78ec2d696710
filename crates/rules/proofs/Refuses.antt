-- A number that conditions give is 0 or one of theirs, and so one of the order's, and of those that apply it is the earliest there.
-- A call whose refusals test the conditions answers with such a number.
-- Assumes nothing.
use mathlib.Core.Path.{◌≡◌, sym, subst}
use mathlib.Core.Bool.{true}
use mathlib.Core.List.{List, [], ◌∷◌}
use mathlib.Core.Logic.{◌⊎◌, inl, inr, ⊎_elim}
use Prim.Native.Nat.{ℕ, ◌≤◌, ◌<◌}
use Rattle.lists.specs.Member.{Member}
use Rattle.rules.specs.Call.{Call, answer, number_of}
use Rattle.rules.specs.Refuses.{condition_numbers, Refuses}
use Rattle.rules.specs.Condition.{Condition, ◌if◌, Given, Applies, Tests}
use Rattle.rules.specs.Order.{refusal_order, is_sublist, position}
use Rattle.rules.specs.Rule.{Rule, lowest}
use Rattle.rules.proofs.Call.{answer_number, answer_refused, number_given}
use Rattle.rules.proofs.Condition.{given}
use Rattle.rules.proofs.Order.{sublist_member, given_earliest, order_distinct}

-- the number that conditions give is 0 or one of their numbers
pub given_among : (conditions : List Condition) (n : ℕ) → Given conditions n → (n ≡ 0) ⊎ Member n (condition_numbers conditions)
unfolding condition_numbers
given_among [] n none = inl none
given_among ((m if holds) ∷ conditions) n (inl first) = inr (inl first.1)
given_among ((m if holds) ∷ conditions) n (inr later) =
    ⊎_elim (λ none. inl none) (λ found. inr (inr found)) (given_among conditions n later.1)

module _ (numbers : List ℕ) (conditions : List Condition) {Left : Type 0} (numbered : condition_numbers conditions ≡ numbers)
    (ordered : is_sublist numbers refusal_order ≡ true) where
  -- conditions with numbers in the order fix the answer
  pub refuses_given : (n : ℕ) → Given conditions n → (0 < n → Left) → Refuses numbers conditions n Left
  refuses_given n gives left = record {
    numbered = numbered;
    ordered = ordered;
    among = subst (λ (ns : List ℕ). (n ≡ 0) ⊎ Member n ns) numbered (given_among conditions n gives);
    given = gives;
    left = left;
  }

  -- so do rules that test them
  pub refuses_tested : (rules : List Rule) → Tests rules conditions → (0 < lowest rules → Left)
      → Refuses numbers conditions (lowest rules) Left
  refuses_tested rules tests = refuses_given (lowest rules) (given rules conditions tests)

-- demand 1 of every call: its refusals test the conditions, its answer has the number in a place of its own, and what it hands back
-- with a number is what is left
pub refuses_call : (numbers : List ℕ) (conditions : List Condition) → condition_numbers conditions ≡ numbers
    → is_sublist numbers refusal_order ≡ true → {A : Type 0} (call : Call A) (number : A → ℕ) → number call.value ≡ 0
    → ((n : ℕ) → number (call.refused n) ≡ n) → (Left : A → Type 0) → Tests call.refusals conditions
    → ((n : ℕ) → Left (call.refused n)) → Refuses numbers conditions (number (answer call)) (Left (answer call))
refuses_call numbers conditions numbered ordered call number none some Left tests left =
    let is_number = answer_number call number none some in
    refuses_given numbers conditions numbered ordered (number (answer call))
    (subst (Given conditions) (sym is_number) (number_given call conditions tests))
    (λ positive. subst Left (sym (answer_refused call (subst (λ (n : ℕ). 0 < n) is_number positive))) (left (number_of call)))

-- a call ends in a result or in one of the order's numbers
pub answers_known : {numbers : List ℕ} {conditions : List Condition} {n : ℕ} {Left : Type 0} → Refuses numbers conditions n Left
    → (n ≡ 0) ⊎ Member n refusal_order
answers_known {numbers} {conditions} {n} a =
    ⊎_elim (λ none. inl none) (λ found. inr (sublist_member n numbers refusal_order a.ordered found)) a.among

-- of the numbers whose conditions hold, the one given stands first in the order
pub earliest : {numbers : List ℕ} {conditions : List Condition} {n : ℕ} {Left : Type 0} → Refuses numbers conditions n Left
    → (m : ℕ) → Applies conditions m → position n ≤ position m
unfolding position
earliest {numbers} {conditions} {n} a m applies =
    given_earliest refusal_order conditions n m order_distinct (rw a.numbered a.ordered) a.given applies
