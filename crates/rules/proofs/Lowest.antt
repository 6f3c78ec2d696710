-- The number that a list of rules gives: 0 exactly where no rule applies, else that of the first that applies.
-- Assumes nothing.
use Prim.Native.Nat.{ℕ, ◌<◌}
use mathlib.Core.Path.{◌≡◌, refl, ◌∙◌}
use mathlib.Core.Bool.{Bool, true, false, ◌&&◌}
use mathlib.Core.List.{List, [], ◌∷◌, ◌++◌}
use mathlib.Core.Logic.{◌↔◌}
use native.Mathlib.Omega.{arith}
use lib.Dec.{T, ltb, ltb→lt}
use Rattle.rules.specs.Rule.{Rule, ◌when◌, lowest, Clear, all_positive}

-- a rule that does not apply is passed over
pub pass : (n : ℕ) (rules : List Rule) {b : Bool} → b ≡ false → lowest ((n when b) ∷ rules) ≡ lowest rules
unfolding lowest
pass n rules e = rw e

-- the first rule that applies gives its number
pub stop : (n : ℕ) (rules : List Rule) {b : Bool} → b ≡ true → lowest ((n when b) ∷ rules) ≡ n
unfolding lowest
stop n rules e = rw e

-- where no rule applies, the number is 0
pub lowest_clear : (rules : List Rule) → Clear rules → lowest rules ≡ 0
unfolding lowest
lowest_clear [] c = refl
lowest_clear ((n when b) ∷ rules) c = pass n rules c.0 ∙ lowest_clear rules c.1

-- a positive number and a list of positive numbers, out of their test
positive_parts : (n : ℕ) (rules : List Rule) → T (ltb 0 n && all_positive rules) → (0 < n) × T (all_positive rules)
positive_parts n rules = parts (ltb 0 n) (ltb→lt 0 n)
  where
    parts : (a : Bool) → (T a → 0 < n) → T (a && all_positive rules) → (0 < n) × T (all_positive rules)
    parts true f p = (f tt, p)
    parts false f p = absurd p

-- where the numbers are positive and 0 is given, no rule applies
pub clear_lowest : (rules : List Rule) → T (all_positive rules) → lowest rules ≡ 0 → Clear rules
unfolding lowest
clear_lowest [] p e = tt
clear_lowest ((n when true) ∷ rules) p e = let h : 0 < n = (positive_parts n rules p).0 in absurd (omega arith)
clear_lowest ((n when false) ∷ rules) p e = (refl, clear_lowest rules (positive_parts n rules p).1 e)

-- so rules with positive numbers give 0 exactly where none applies
pub lowest_zero : (rules : List Rule) → T (all_positive rules) → (lowest rules ≡ 0) ↔ Clear rules
lowest_zero rules p = (clear_lowest rules p, lowest_clear rules)

-- ---- lists joined

-- where no rule of the first list applies, the second gives the number
pub lowest_later : (xs ys : List Rule) → Clear xs → lowest (xs ++ ys) ≡ lowest ys
lowest_later [] ys c = refl
lowest_later ((n when b) ∷ xs) ys c = pass n (xs ++ ys) c.0 ∙ lowest_later xs ys c.1

-- where the first list gives 0, the second gives the number
pub lowest_later_zero : (xs ys : List Rule) → T (all_positive xs) → lowest xs ≡ 0 → lowest (xs ++ ys) ≡ lowest ys
lowest_later_zero xs ys p e = lowest_later xs ys (clear_lowest xs p e)

-- a number above 0 of the first list is the number of both together
pub lowest_earlier : (xs ys : List Rule) → 0 < lowest xs → lowest (xs ++ ys) ≡ lowest xs
unfolding lowest
lowest_earlier [] ys h = absurd (omega arith)
lowest_earlier ((n when true) ∷ xs) ys h = refl
lowest_earlier ((n when false) ∷ xs) ys h = lowest_earlier xs ys h

-- lists that give one number give one number behind any other list
pub lowest_behind : (xs ys zs : List Rule) → lowest ys ≡ lowest zs → lowest (xs ++ ys) ≡ lowest (xs ++ zs)
unfolding lowest
lowest_behind [] ys zs e = e
lowest_behind ((n when true) ∷ xs) ys zs e = refl
lowest_behind ((n when false) ∷ xs) ys zs e = lowest_behind xs ys zs e

-- two lists joined are clear exactly where both are
pub clear_append : (xs ys : List Rule) → Clear (xs ++ ys) ↔ (Clear xs × Clear ys)
clear_append [] ys = (λ c. (tt, c), λ c. c.1)
clear_append ((n when b) ∷ xs) ys =
    let rest = clear_append xs ys in
    (λ c. ((c.0, (rest.0 c.1).0), (rest.0 c.1).1), λ c. (c.0.0, rest.1 (c.0.1, c.1)))

-- two lists of positive numbers joined
pub positive_append : (xs ys : List Rule) → T (all_positive xs) → T (all_positive ys) → T (all_positive (xs ++ ys))
positive_append [] ys p q = q
positive_append ((n when b) ∷ xs) ys p q = join (ltb 0 n) (λ r. positive_append xs ys r q) p
  where
    join : (a : Bool) → (T (all_positive xs) → T (all_positive (xs ++ ys))) → T (a && all_positive xs) → T (a && all_positive (xs ++ ys))
    join true f r = f r
    join false f r = r

-- two lists of positive numbers joined give 0 exactly where the first gives 0 and no rule of the second applies
pub lowest_append_zero : (xs ys : List Rule) → T (all_positive xs) → T (all_positive ys)
    → (lowest (xs ++ ys) ≡ 0) ↔ ((lowest xs ≡ 0) × Clear ys)
lowest_append_zero xs ys p q =
    let both = clear_append xs ys in (
      λ e. let c = both.0 (clear_lowest (xs ++ ys) (positive_append xs ys p q) e) in (lowest_clear xs c.0, c.1),
      λ c. lowest_later_zero xs ys p c.0 ∙ lowest_clear ys c.1,
    )
