-- What follows from demand 1 of two calls with the same conditions: both answer with one number, and where nothing is refused no
-- condition holds. So a call is determined by what it leaves where it is refused and by what it answers where it is not.
-- Assumes nothing.
use Prim.Native.Nat.{ℕ, zero, suc, ◌<◌, ◌≤◌}
use mathlib.Core.Path.{◌≡◌, refl, sym, subst, ◌∙◌}
use mathlib.Core.Bool.{Bool, true, false}
use mathlib.Core.Logic.{◌⊎◌, inl, inr, ⊎_elim}
use mathlib.Core.List.{List, [], ◌∷◌, ◌++◌}
use native.Mathlib.Omega.{arith}
use Rattle.lists.specs.Member.{Member}
use Rattle.rules.specs.Condition.{Condition, ◌if◌, Given}
use Rattle.rules.specs.Either.{either_conditions}
use Rattle.rules.specs.Order.{refusal_order}
use Rattle.rules.specs.Refuses.{Refuses, condition_numbers}
use Rattle.rules.proofs.Condition.{given_unique}
use Rattle.rules.proofs.Order.{sublist_member}
use Rattle.rules.proofs.Says.{says_decides, says_less}

-- a number is below another or not
pub below_or_not : {A : Type 0} (a b : ℕ) → (a < b → A) → (b ≤ a → A) → A
below_or_not a b f g = ⊎_elim f (λ n. g (omega (arith, n))) (says_decides (says_less a b))

-- a number is 0 or above
pub either : {A : Type 0} (n : ℕ) → (n ≡ 0 → A) → (0 < n → A) → A
either zero f g = f refl
either (suc n) f g = g (omega arith)

-- no condition of the list holds
abbrev pub NoneHold : List Condition → Type 0
NoneHold [] = Unit {0}
NoneHold ((n if holds) ∷ conditions) = (¬ holds) × NoneHold conditions

-- then the number is 0
pub none_zero : (conditions : List Condition) (n : ℕ) → NoneHold conditions → Given conditions n → n ≡ 0
none_zero [] n none given = given
none_zero ((m if holds) ∷ conditions) n none (inl p) = absurd (none.0 p.0)
none_zero ((m if holds) ∷ conditions) n none (inr p) = none_zero conditions n none.1 p.1

false_is_not_true : ¬ (false ≡ true)
false_is_not_true e = let z : ◌≡◌ {A = ℕ} 0 1 = cc in omega arith

-- and where the number is 0, none holds
given_none : (conditions : List Condition) → ¬ Member 0 (condition_numbers conditions) → Given conditions 0 → NoneHold conditions
unfolding condition_numbers
given_none [] above given = tt
given_none ((m if holds) ∷ conditions) above (inl p) = absurd (above (inl p.1))
given_none ((m if holds) ∷ conditions) above (inr p) = (p.0, given_none conditions (λ m. above (inr m)) p.1)

abbrev all_above : List ℕ → Bool
all_above [] = true
all_above (zero ∷ ns) = false
all_above (suc n ∷ ns) = all_above ns

above : (ns : List ℕ) → all_above ns ≡ true → ¬ Member 0 ns
above [] all m = m
above (zero ∷ ns) all m = absurd (false_is_not_true all)
above (suc n ∷ ns) all (inl e) = absurd (omega arith)
above (suc n ∷ ns) all (inr m) = above ns all m

no_zero : ¬ Member 0 refusal_order
unfolding refusal_order
no_zero m = above refusal_order refl m

-- of two lists
pub none_append : (xs ys : List Condition) → NoneHold (xs ++ ys) → NoneHold xs × NoneHold ys
none_append [] ys none = (tt, none)
none_append ((n if holds) ∷ xs) ys none = let rest = none_append xs ys none.1 in ((none.0, rest.0), rest.1)

pub none_join : (xs ys : List Condition) → NoneHold xs → NoneHold ys → NoneHold (xs ++ ys)
none_join [] ys p q = q
none_join ((n if holds) ∷ xs) ys p q = (p.0, none_join xs ys p.1 q)

-- where none of the first holds, the others give the number
given_later : (xs ys : List Condition) (n : ℕ) → NoneHold xs → Given (xs ++ ys) n → Given ys n
given_later [] ys n none given = given
given_later ((m if holds) ∷ xs) ys n none (inl p) = absurd (none.0 p.0)
given_later ((m if holds) ∷ xs) ys n none (inr p) = given_later xs ys n none.1 p.1

-- where the first give a number above 0, that is the number
given_earlier : (xs ys : List Condition) (m n : ℕ) → Given xs m → 0 < m → Given (xs ++ ys) n → n ≡ m
given_earlier [] ys m n given some more = absurd (omega arith)
given_earlier ((k if holds) ∷ xs) ys m n (inl p) some (inl q) = q.1 ∙ sym p.1
given_earlier ((k if holds) ∷ xs) ys m n (inl p) some (inr q) = absurd (q.0 p.0)
given_earlier ((k if holds) ∷ xs) ys m n (inr p) some (inl q) = absurd (p.0 q.0)
given_earlier ((k if holds) ∷ xs) ys m n (inr p) some (inr q) = given_earlier xs ys m n p.1 some q.1

-- of the conditions of two inputs that are tested alike
pub none_either : (xs ys : List Condition) → NoneHold (either_conditions xs ys) → NoneHold xs × NoneHold ys
none_either [] ys none = (tt, none)
none_either ((n if P) ∷ xs) [] none = (none, tt)
none_either ((n if P) ∷ xs) ((m if Q) ∷ ys) none =
    let rest = none_either xs ys none.1 in
    (((λ x. none.0 (inl x)), rest.0), ((λ y. none.0 (inr y)), rest.1))

module _ {numbers : List ℕ} {conditions : List Condition} {n n' : ℕ} {Left Left' : Type 0}
    (d : Refuses numbers conditions n Left) (d' : Refuses numbers conditions n' Left') where
  -- two calls with the same conditions are refused with the same number
  pub same_number : n ≡ n'
  same_number = given_unique conditions n n' d.given d'.given

  -- where nothing is refused, no condition holds
  pub none_hold : n ≡ 0 → NoneHold conditions
  none_hold e =
      given_none conditions
      (λ m. no_zero (sublist_member 0 numbers refusal_order d.ordered (subst (λ (ns : List ℕ). Member 0 ns) d.numbered m)))
      (subst (Given conditions) e d.given)

  -- they answer the same where they do refused and where they do not
  pub refused_or_not : {A : Type 0} → (n ≡ n' → Left → Left' → A) → (n ≡ 0 → n' ≡ 0 → NoneHold conditions → A) → A
  refused_or_not refused answered =
      either n (λ e. answered e (sym same_number ∙ e) (none_hold e))
      (λ some. refused same_number (d.left some) (d'.left (subst (λ (k : ℕ). 0 < k) same_number some)))

-- a call that asks its own conditions behind those of another call
module _ {numbers numbers' : List ℕ} {xs : List Condition} (ys : List Condition) {m n : ℕ} {Left Left' : Type 0}
    (d : Refuses numbers xs m Left) (d' : Refuses numbers' (xs ++ ys) n Left') where
  -- it is refused as the other is where the other is
  pub refused_alike : 0 < m → n ≡ m
  refused_alike some = given_earlier xs ys m n d.given some d'.given

  -- else its own conditions give the number
  pub refused_own : m ≡ 0 → Given ys n
  refused_own none = given_later xs ys n (none_hold d d none) d'.given
