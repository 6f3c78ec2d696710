-- The order of refusals (01, "Turned back", the lowest number that applies): where the numbers of conditions stand in that order,
-- the number given stands in it at or before every number that applies.
-- Assumes nothing.
use Prim.Native.Nat.{ℕ, suc, ◌≤◌, zero-le, suc-le-suc}
use mathlib.Core.Path.{◌≡◌, refl, ◌∙◌, subst}
use mathlib.Core.Bool.{Bool, true, false, not, ◌&&◌, ◌||◌, false≢true}
use mathlib.Core.List.{List, [], ◌∷◌}
use mathlib.Core.Logic.{◌⊎◌, inl, inr, ⊎_elim}
use lib.Dec.{eqb}
use borrow.Author.Tests.{eqb-true, eq-eqb, ne_eqb}
use Rattle.rules.specs.Refuses.{condition_numbers}
use Rattle.rules.specs.Condition.{Condition, ◌if◌, Given, Applies}
use Rattle.rules.specs.Order.{refusal_order, is_sublist, position_in}
use Rattle.lists.specs.Member.{Member, EachOnce}
use Rattle.lists.specs.Places.{items_at, tabulate}
use Rattle.rules.specs.Says.{Says}
use Rattle.rules.proofs.Says.{says_true, says_equal, says_or, says_and, says_not, says_cond}

-- ---- lists without repetition

-- whether n is one of the numbers of a list
unfoldable pub is_member : ℕ → List ℕ → Bool
is_member n [] = false
is_member n (m ∷ ms) = eqb n m || is_member n ms

-- whether no number stands twice in a list
unfoldable is_distinct : List ℕ → Bool
is_distinct [] = true
is_distinct (n ∷ ns) = not (is_member n ns) && is_distinct ns

-- the test of membership says it
pub says_member : (n : ℕ) (ns : List ℕ) → Says (is_member n ns) (Member n ns)
unfolding is_member
says_member n [] = record { sound = λ e. false≢true e; complete = λ m. absurd m }
says_member n (m ∷ ms) = says_or (says_equal n m) (says_member n ms)

-- so does the test of repetition
says_distinct : (ns : List ℕ) → Says (is_distinct ns) (EachOnce ns)
unfolding is_distinct
says_distinct [] = record { sound = λ e. tt; complete = λ m. refl }
says_distinct (n ∷ ns) = says_and (says_not (says_member n ns)) (says_distinct ns)

-- ---- sublists

-- the first number of what is left stands at the head of the list or in its rest
sublist_cases : (x y : ℕ) (xs ys : List ℕ) → is_sublist (x ∷ xs) (y ∷ ys) ≡ true
    → ((x ≡ y) × (is_sublist xs ys ≡ true)) ⊎ (is_sublist (x ∷ xs) ys ≡ true)
unfolding is_sublist
sublist_cases x y xs ys s =
    ⊎_elim (λ c. inl (eqb-true x y c.0, c.1)) (λ c. inr c.1)
    ((says_cond {t = eqb x y} (says_true (is_sublist xs ys)) (says_true (is_sublist (x ∷ xs) ys))).sound s)

-- what is left of a list has no other numbers
pub sublist_member : (n : ℕ) (xs ys : List ℕ) → is_sublist xs ys ≡ true → Member n xs → Member n ys
unfolding is_sublist
sublist_member n [] ys s m = absurd m
sublist_member n (x ∷ xs) [] s m = absurd (false≢true s)
sublist_member n (x ∷ xs) (y ∷ ys) s m =
    choose (sublist_member n xs ys) (sublist_member n (x ∷ xs) ys) (sublist_cases x y xs ys s) m
  where
    choose : (is_sublist xs ys ≡ true → Member n xs → Member n ys) → (is_sublist (x ∷ xs) ys ≡ true → Member n (x ∷ xs) → Member n ys)
        → ((x ≡ y) × (is_sublist xs ys ≡ true)) ⊎ (is_sublist (x ∷ xs) ys ≡ true) → Member n (x ∷ xs) → Member n (y ∷ ys)
    choose f g (inl c) (inl e) = inl (e ∙ c.0)
    choose f g (inl c) (inr t) = inr (f c.1 t)
    choose f g (inr c) t = inr (g c t)

-- ---- places in an order

-- a number of the rest that is not the head stands one place later than in the rest
position_rest : (y : ℕ) (ys : List ℕ) (n : ℕ) → ¬ Member y ys → Member n ys → position_in (y ∷ ys) n ≡ suc (position_in ys n)
unfolding position_in
position_rest y ys n d m = rw (ne_eqb n y (λ e. d (subst (λ (k : ℕ). Member k ys) e m)))

-- the head stands first
position_head : (y : ℕ) (ys : List ℕ) (n : ℕ) → n ≡ y → position_in (y ∷ ys) n ≡ 0
unfolding position_in
position_head y ys n e = rw (eq-eqb n y e)

-- the number of a condition that holds is one of the conditions' numbers
pub applies_member : (conditions : List Condition) (n : ℕ) → Applies conditions n → Member n (condition_numbers conditions)
unfolding condition_numbers
applies_member [] n a = a
applies_member ((m if P) ∷ conditions) n (inl a) = inl a.1
applies_member ((m if P) ∷ conditions) n (inr a) = inr (applies_member conditions n a)

-- where some condition holds, the number given is that of a condition that holds
given_applies : (conditions : List Condition) (k n : ℕ) → Given conditions k → Applies conditions n → Applies conditions k
given_applies [] k n g a = absurd a
given_applies ((m if P) ∷ conditions) k n (inl g) a = inl g
given_applies ((m if P) ∷ conditions) k n (inr g) (inl a) = absurd (g.0 a.0)
given_applies ((m if P) ∷ conditions) k n (inr g) (inr a) = inr (given_applies conditions k n g.1 a)

-- where the conditions' numbers stand in a list's order, k, the number given, stands in it at or before n
abbrev Earlier : List ℕ → List Condition → ℕ → ℕ → Type 0
Earlier order conditions k n =
    is_sublist (condition_numbers conditions) order ≡ true → Given conditions k → Applies conditions n
    → position_in order k ≤ position_in order n

-- a number that applies is one of the order's numbers
applies_order : (order : List ℕ) (conditions : List Condition) (n : ℕ) → is_sublist (condition_numbers conditions) order ≡ true
    → Applies conditions n → Member n order
applies_order order conditions n s a = sublist_member n (condition_numbers conditions) order s (applies_member conditions n a)

-- what is earlier in the rest of an order is earlier in the whole
earlier_rest : (y : ℕ) (ys : List ℕ) (conditions : List Condition) (k n : ℕ) → ¬ Member y ys
    → is_sublist (condition_numbers conditions) ys ≡ true → Earlier ys conditions k n → Given conditions k → Applies conditions n
    → position_in (y ∷ ys) k ≤ position_in (y ∷ ys) n
earlier_rest y ys conditions k n u s h g a =
    let e = position_rest y ys k u (applies_order ys conditions k s (given_applies conditions k n g a)) in
    rw (e, position_rest y ys n u (applies_order ys conditions n s a)) (suc-le-suc (h s g a))

-- where the conditions' numbers stand in the order of a list without repetition, the number given stands in that list at or
-- before every number that applies
pub given_earliest : (order : List ℕ) (conditions : List Condition) (k n : ℕ)
    → EachOnce order → is_sublist (condition_numbers conditions) order ≡ true → Given conditions k → Applies conditions n
    → position_in order k ≤ position_in order n
unfolding is_sublist condition_numbers
given_earliest order [] k n d s g a = absurd a
given_earliest [] ((m if P) ∷ conditions) k n d s g a = absurd (false≢true s)
given_earliest (y ∷ ys) ((m if P) ∷ conditions) k n d s g a =
    choose d.0 (given_earliest ys conditions k n d.1) (given_earliest ys ((m if P) ∷ conditions) k n d.1)
    (sublist_cases m y (condition_numbers conditions) ys s) g a
  where
    choose : ¬ Member y ys → Earlier ys conditions k n → Earlier ys ((m if P) ∷ conditions) k n
        → ((m ≡ y) × (is_sublist (condition_numbers conditions) ys ≡ true)) ⊎ (is_sublist (m ∷ condition_numbers conditions) ys ≡ true)
        → Given ((m if P) ∷ conditions) k → Applies ((m if P) ∷ conditions) n → position_in (y ∷ ys) k ≤ position_in (y ∷ ys) n
    choose u f h (inl c) (inl e) t = rw (position_head y ys k (e.1 ∙ c.0)) zero-le
    choose u f h (inl c) (inr e) (inl t) = absurd (e.0 t.0)
    choose u f h (inl c) (inr e) (inr t) = earlier_rest y ys conditions k n u c.1 f e.1 t
    choose u f h (inr c) e t = earlier_rest y ys ((m if P) ∷ conditions) k n u c h e t

-- 1 to 22 stand in the order in rising order
pub order_rises : is_sublist (tabulate 22 suc) refusal_order ≡ true
unfolding is_sublist refusal_order tabulate items_at
order_rises = refl

-- no number stands twice in the order
pub order_distinct : EachOnce refusal_order
unfolding is_distinct is_member refusal_order
order_distinct = (says_distinct refusal_order).sound refl
