-- Conditions with rising numbers, taken one by one: the fact beside a number, and what the first condition that holds leads to.
-- Assumes nothing.
use Prim.Native.Nat.{ℕ, ◌≤◌, ◌<◌}
use mathlib.Core.Path.{◌≡◌, refl, sym, subst, ◌∙◌}
use mathlib.Core.Bool.{Bool, true, false, cond}
use mathlib.Core.List.{List, [], ◌∷◌, ◌++◌}
use mathlib.Core.Logic.{◌⊎◌, inl, inr}
use native.Mathlib.Omega.{arith}
use lib.Dec.{eqb}
use borrow.Author.Tests.{eqb-true, eq-eqb, ne_eqb}
use Rattle.lists.specs.Member.{Member}
use Rattle.rules.specs.Condition.{Condition, ◌if◌, Applies, Given}
use Rattle.rules.specs.Refuses.{condition_numbers}
use Rattle.rules.proofs.Order.{applies_member}

-- ---- rising numbers

-- n is below the first number of a list, if it has one
abbrev pub BelowFirst : ℕ → List ℕ → Type 0
BelowFirst n [] = Unit {0}
BelowFirst n (m ∷ ms) = n < m

-- each number of a list is below the next
abbrev pub Rising : List ℕ → Type 0
Rising [] = Unit {0}
Rising (n ∷ ns) = BelowFirst n ns × Rising ns

-- the first is below all others
pub rising_first : (n : ℕ) (ns : List ℕ) → Rising (n ∷ ns) → (m : ℕ) → Member m ns → n < m
rising_first n [] rises m member = absurd member
rising_first n (k ∷ ns) rises m (inl same) = omega arith
rising_first n (k ∷ ns) rises m (inr later) = let after : k < m = rising_first k ns rises.1 m later in omega arith

-- ---- the fact beside a number

-- the fact beside a number, and the empty one where no condition has the number; it computes on numerals
abbrev pub fact_of : List Condition → ℕ → Type 0
fact_of [] n = ⊥
fact_of ((m if holds) ∷ conditions) n = cond (eqb n m) holds (fact_of conditions n)

-- the number of a condition that holds has its fact
pub applies_fact : (conditions : List Condition) (n : ℕ) → Rising (condition_numbers conditions) → Applies conditions n
    → fact_of conditions n
unfolding condition_numbers
applies_fact [] n rises applies = applies
applies_fact ((m if P) ∷ conditions) n rises (inl here) = rw (eq-eqb n m here.1) here.0
applies_fact ((m if P) ∷ conditions) n rises (inr later) =
    let after : m < n = rising_first m (condition_numbers conditions) rises n (applies_member conditions n later) in
    rw (ne_eqb n m (λ (same : n ≡ m). omega arith)) (applies_fact conditions n rises.1 later)

-- and a number that has its fact is that of a condition that holds
pub fact_applies : (conditions : List Condition) (n : ℕ) → fact_of conditions n → Applies conditions n
fact_applies [] n fact = fact
fact_applies ((m if P) ∷ conditions) n fact = choose (eqb n m) (eqb-true n m) (fact_applies conditions n) fact
  where
    choose : (b : Bool) → (b ≡ true → n ≡ m) → (fact_of conditions n → Applies conditions n) → cond b P (fact_of conditions n)
        → (P × (n ≡ m)) ⊎ Applies conditions n
    choose true same later fact = inl (fact, same refl)
    choose false same later fact = inr (later fact)

-- ---- condition by condition

-- a number's condition leads to the goal of the number and follows from its cause
abbrev pub Explained : (ℕ → Type 0) → (ℕ → Type 0) → ℕ → Type 0 → Type 0
Explained Goal Cause n holds = (holds → Goal n) × (Cause n → holds)

-- so does each condition of a list, where those before it fail
abbrev pub Explains : (ℕ → Type 0) → (ℕ → Type 0) → List Condition → Type 0
Explains Goal Cause [] = Unit {0}
Explains Goal Cause ((n if holds) ∷ conditions) = Explained Goal Cause n holds × ((¬ holds) → Explains Goal Cause conditions)

-- one condition, and those behind it
pub explain : {A B : Type 0} → A → B → A × B
explain here behind = (here, behind)

-- a number whose goal is had in any case
pub known : (Goal : ℕ → Type 0) {P : Type 0} (n : ℕ) → Goal n → Explained Goal (λ k. ⊥) n P
known Goal n goal = (λ holds. goal, λ none. absurd none)

module _ (Goal Cause : ℕ → Type 0) where
  -- the number that the conditions give has its goal
  pub explains_given : (conditions : List Condition) (n : ℕ) → Explains Goal Cause conditions → Given conditions n → 0 < n → Goal n
  explains_given [] n explains none some = absurd (omega arith)
  explains_given ((m if P) ∷ conditions) n explains (inl here) some = subst Goal (sym here.1) (explains.0.0 here.0)
  explains_given ((m if P) ∷ conditions) n explains (inr later) some =
      explains_given conditions n (explains.1 later.0) later.1 some

  -- a number that has its cause is given, unless a lower one is
  pub explains_caused : (low : ℕ) (conditions : List Condition) (k n : ℕ) → Rising (low ∷ condition_numbers conditions)
      → Explains Goal Cause conditions → Given conditions k → Member n (condition_numbers conditions)
      → (k ≡ 0) ⊎ (n ≤ k) → Cause n → k ≡ n
  unfolding condition_numbers
  explains_caused low [] k n rises explains gives member first cause = absurd member
  explains_caused low ((m if P) ∷ conditions) k n rises explains (inl here) (inl same) first cause = here.1 ∙ sym same
  explains_caused low ((m if P) ∷ conditions) k n rises explains (inl here) (inr later) (inl none) cause = absurd (omega arith)
  explains_caused low ((m if P) ∷ conditions) k n rises explains (inl here) (inr later) (inr first) cause =
      let after : m < n = rising_first m (condition_numbers conditions) rises.1 n later in absurd (omega arith)
  explains_caused low ((m if P) ∷ conditions) k n rises explains (inr fails) (inl same) first cause =
      absurd (fails.0 (explains.0.1 (subst Cause same cause)))
  explains_caused low ((m if P) ∷ conditions) k n rises explains (inr fails) (inr later) first cause =
      explains_caused m conditions k n rises.1 (explains.1 fails.0) fails.1 later first cause

  -- conditions behind others have to be explained only where all of these fail
  pub explains_append : (conditions conditions' : List Condition) → Explains Goal Cause conditions
      → (Given conditions 0 → Explains Goal Cause conditions') → Explains Goal Cause (conditions ++ conditions')
  explains_append [] conditions' explains behind = behind refl
  explains_append ((m if P) ∷ conditions) conditions' explains behind = (
    explains.0,
    λ fails. explains_append conditions conditions' (explains.1 fails) (λ none. behind (inr (fails, none))),
  )
