-- The rules of two inputs that are tested alike: they test the conditions of both, and give the lower of the two numbers.
-- Assumes nothing.
use Prim.Native.Nat.{ℕ, ◌<◌, ◌≤◌}
use mathlib.Core.Path.{◌≡◌, refl, sym, ◌∙◌}
use mathlib.Core.Bool.{Bool, true, false, cond, ◌||◌, false≢true}
use mathlib.Core.Logic.{◌↔◌}
use native.Mathlib.Decide.{ℕ_discrete}
use mathlib.Core.List.{List, [], ◌∷◌}
use native.Mathlib.Omega.{arith}
use lib.Dec.{T, eqb, ltb}
use borrow.Author.Tests.{eq-eqb, ne_eqb, lt-ltb, le-ltb}
use Rattle.rules.specs.Condition.{Condition, Tests, ◌if◌}
use Rattle.rules.specs.Either.{either_conditions, either_rules}
use Rattle.rules.specs.Rule.{Clear, Rule, ◌when◌, all_positive, lowest}
use Rattle.rules.proofs.Says.{says_or}

-- rules that test two lists of conditions test both together
pub tests_either : (rules : List Rule) (conditions : List Condition) (rules' : List Rule) (conditions' : List Condition)
    → Tests rules conditions → Tests rules' conditions' → Tests (either_rules rules rules') (either_conditions conditions conditions')
unfolding either_rules
tests_either [] [] rules' conditions' t t' = t'
tests_either [] (condition ∷ conditions) rules' conditions' t t' = absurd t
tests_either (rule ∷ rules) [] rules' conditions' t t' = absurd t
tests_either ((n when b) ∷ rules) ((m if holds) ∷ conditions) [] [] t t' = t
tests_either ((n when b) ∷ rules) ((m if holds) ∷ conditions) [] (condition ∷ conditions') t t' = absurd t'
tests_either ((n when b) ∷ rules) ((m if holds) ∷ conditions) (rule ∷ rules') [] t t' = absurd t'
tests_either ((n when b) ∷ rules) ((m if holds) ∷ conditions) ((k when b') ∷ rules') ((l if holds') ∷ conditions') t t' =
    (t.0, says_or t.1 t'.1, tests_either rules conditions rules' conditions' t.2 t'.2)

-- two lists of rules have the same numbers
abbrev pub SameNumbers : List Rule → List Rule → Type 0
SameNumbers [] [] = Unit {0}
SameNumbers [] (rule ∷ rules) = ⊥
SameNumbers (rule ∷ rules) [] = ⊥
SameNumbers ((n when b) ∷ rules) ((m when b') ∷ rules') = (n ≡ m) × SameNumbers rules rules'

-- each rule's number is above the one before it, and the first above `low`
abbrev pub Rising : ℕ → List Rule → Type 0
Rising low [] = Unit {0}
Rising low ((n when b) ∷ rules) = (low < n) × Rising n rules

-- of two numbers the lower that is not 0
unfoldable pub lower_of : ℕ → ℕ → ℕ
lower_of a b = cond (eqb a 0) b (cond (eqb b 0) a (cond (ltb b a) b a))

-- a number that rising rules give is 0 or above the bound
lowest_above : (low : ℕ) (rules : List Rule) → Rising low rules → 0 < lowest rules → low < lowest rules
unfolding lowest
lowest_above low [] rises some = absurd (omega arith)
lowest_above low ((n when true) ∷ rules) rises some = rises.0
lowest_above low ((n when false) ∷ rules) rises some =
    let later : n < lowest rules = lowest_above n rules rises.1 some in
    let first : low < n = rises.0 in
    omega arith

-- of no numbers there is none
lower_none : lower_of 0 0 ≡ 0
unfolding lower_of
lower_none = refl

-- the first of two numbers, where it is not 0 and no other above 0 is lower
lower_first : (a b : ℕ) → 0 < a → (0 < b → a ≤ b) → lower_of a b ≡ a
unfolding lower_of
lower_first a b some least = elim (ℕ_discrete b 0) [
  | yes e ↦ rw (ne_eqb a 0 (λ (z : a ≡ 0). omega arith), eq-eqb b 0 e)
  | no other ↦ rw (ne_eqb a 0 (λ (z : a ≡ 0). omega arith), ne_eqb b 0 other, le-ltb b a (least (omega arith)))
]

-- the second, where it is not 0 and no other above 0 is as low
lower_second : (a b : ℕ) → 0 < b → (0 < a → b < a) → lower_of a b ≡ b
unfolding lower_of
lower_second a b some least = elim (ℕ_discrete a 0) [
  | yes e ↦ rw (eq-eqb a 0 e)
  | no other ↦ rw (ne_eqb a 0 other, ne_eqb b 0 (λ (z : b ≡ 0). omega arith), lt-ltb b a (least (omega arith)))
]

-- two lists with the same rising numbers give the lower of their numbers
pub lowest_either : (low : ℕ) (rules rules' : List Rule) → SameNumbers rules rules' → Rising low rules → Rising low rules'
    → lowest (either_rules rules rules') ≡ lower_of (lowest rules) (lowest rules')
unfolding lowest either_rules
lowest_either low [] [] same rises rises' = sym lower_none
lowest_either low [] (rule ∷ rules') same rises rises' = absurd same
lowest_either low (rule ∷ rules) [] same rises rises' = absurd same
lowest_either low ((n when true) ∷ rules) ((m when true) ∷ rules') same rises rises' =
    sym (lower_first n m (omega (arith, rises.0)) (λ some. omega (arith, same.0)))
lowest_either low ((n when true) ∷ rules) ((m when false) ∷ rules') same rises rises' =
    sym (lower_first n (lowest rules') (omega (arith, rises.0))
    (λ some. omega (arith, same.0, lowest_above m rules' rises'.1 some)))
lowest_either low ((n when false) ∷ rules) ((m when true) ∷ rules') same rises rises' =
    same.0 ∙ sym (lower_second (lowest rules) m (omega (arith, rises'.0))
    (λ some. omega (arith, same.0, lowest_above n rules rises.1 some)))
lowest_either low ((n when false) ∷ rules) ((m when false) ∷ rules') same rises rises' =
    lowest_either n rules rules' same.1 rises.1 (rw same.0 rises'.1)

-- no rule of two lists with the same numbers applies exactly where none of either does
pub clear_either : (rules rules' : List Rule) → SameNumbers rules rules' → Clear (either_rules rules rules') ↔ (Clear rules × Clear rules')
unfolding either_rules
clear_either [] [] same = (λ c. (tt, tt), λ c. tt)
clear_either [] (rule ∷ rules') same = absurd same
clear_either (rule ∷ rules) [] same = absurd same
clear_either ((n when true) ∷ rules) ((m when b) ∷ rules') same = (λ c. absurd (false≢true (sym c.0)), λ c. absurd (false≢true (sym c.0.0)))
clear_either ((n when false) ∷ rules) ((m when b) ∷ rules') same =
    let rest = clear_either rules rules' same.1 in
    (λ c. let r = rest.0 c.1 in ((refl, r.0), (c.0, r.1)), λ c. (c.1.0, rest.1 (c.0.1, c.1.1)))
