-- Rules that say their conditions give the number of the first condition that holds, and no other.
-- Assumes nothing.
use mathlib.Core.Path.{◌≡◌, ◌∙◌, sym}
use mathlib.Core.Bool.{Bool}
use mathlib.Core.List.{List, [], ◌∷◌, ◌++◌}
use mathlib.Core.Logic.{◌⊎◌, inl, inr}
use Prim.Native.Nat.{ℕ}
use Rattle.rules.specs.Condition.{Condition, ◌if◌, Given, Tests}
use Rattle.rules.specs.Rule.{Rule, ◌when◌, lowest, Clear}
use Rattle.rules.specs.Says.{Says}
use Rattle.rules.proofs.Lowest.{lowest_clear, pass, stop}
use Rattle.rules.proofs.Says.{says_decides, says_false}

-- one rule more: its number is given where its condition holds, else that of the rest
given_step : (m n : ℕ) (b : Bool) (rules : List Rule) (P : Type 0) (conditions : List Condition)
    → n ≡ m → Says b P → Given conditions (lowest rules) → P ⊎ (¬ P)
    → Given ((m if P) ∷ conditions) (lowest ((n when b) ∷ rules))
given_step m n b rules P conditions e says rest (inl p) = inl (p, stop n rules (says.complete p) ∙ e)
given_step m n b rules P conditions e says rest (inr fails) =
    inr (fails, rw (pass n rules ((says_false says).1 fails)) rest)

-- the lowest number of the rules is the one that the conditions give
pub given : (rules : List Rule) (conditions : List Condition) → Tests rules conditions → Given conditions (lowest rules)
given [] [] tests = lowest_clear [] tt
given [] (condition ∷ conditions) tests = absurd tests
given (rule ∷ rules) [] tests = absurd tests
given ((n when b) ∷ rules) ((m if P) ∷ conditions) tests =
    given_step m n b rules P conditions tests.0 tests.1 (given rules conditions tests.2) (says_decides tests.1)

-- rules behind others have to say their conditions only where none of the others applies
pub given_behind : (before rules : List Rule) (conditions conditions' : List Condition)
    → Tests before conditions → (Clear before → Tests rules conditions')
    → Given (conditions ++ conditions') (lowest (before ++ rules))
given_behind [] rules [] conditions' tests says = given rules conditions' (says tt)
given_behind [] rules (condition ∷ conditions) conditions' tests says = absurd tests
given_behind (rule ∷ before) rules [] conditions' tests says = absurd tests
given_behind ((n when b) ∷ before) rules ((m if P) ∷ conditions) conditions' tests says =
    choose (given_behind before rules conditions conditions' tests.2) (says_decides tests.1)
  where
    choose : ((Clear before → Tests rules conditions') → Given (conditions ++ conditions') (lowest (before ++ rules)))
        → P ⊎ (¬ P) → Given ((m if P) ∷ (conditions ++ conditions')) (lowest ((n when b) ∷ (before ++ rules)))
    choose rest (inl p) = inl (p, stop n (before ++ rules) (tests.1.complete p) ∙ tests.0)
    choose rest (inr fails) =
        let passed = (says_false tests.1).1 fails in
        inr (fails, rw (pass n (before ++ rules) passed) (rest (λ none. says (passed, none))))

-- conditions give one number only
pub given_unique : (conditions : List Condition) (m n : ℕ) → Given conditions m → Given conditions n → m ≡ n
given_unique [] m n p q = p ∙ sym q
given_unique ((k if P) ∷ conditions) m n (inl p) (inl q) = p.1 ∙ sym q.1
given_unique ((k if P) ∷ conditions) m n (inl p) (inr q) = absurd (q.0 p.0)
given_unique ((k if P) ∷ conditions) m n (inr p) (inl q) = absurd (p.0 q.0)
given_unique ((k if P) ∷ conditions) m n (inr p) (inr q) = given_unique conditions m n p.1 q.1

-- tests of two lists are tests of the joined list
pub tests_append : (rules rules' : List Rule) (conditions conditions' : List Condition)
    → Tests rules conditions → Tests rules' conditions' → Tests (rules ++ rules') (conditions ++ conditions')
tests_append [] rules' [] conditions' p q = q
tests_append [] rules' (condition ∷ conditions) conditions' p q = absurd p
tests_append (rule ∷ rules) rules' [] conditions' p q = absurd p
tests_append ((n when b) ∷ rules) rules' ((m if P) ∷ conditions) conditions' p q =
    (p.0, p.1, tests_append rules rules' conditions conditions' p.2 q)
