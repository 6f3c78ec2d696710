-- The numbers that pass a test are listed, each once, and all choices of n values: every list of n numbers that satisfy P
-- is one of them, and none is listed twice.
-- Assumes nothing.
use mathlib.Core.Path.{◌≡◌, refl, sym, subst, ap, ◌∙◌}
use mathlib.Core.Bool.{Bool, true, false, cond, false≢true}
use mathlib.Core.Logic.{◌↔◌, inl, inr, ⊎_elim}
use mathlib.Core.List.{List, [], ◌∷◌, head-eq_of_cons-eq, tail-eq_of_cons-eq}
use Prim.Native.Nat.{ℕ, zero, suc, ◌<◌, ◌≤◌}
use native.Mathlib.Nat.{eq-or-lt_of_le}
use native.Mathlib.Omega.{arith}
use Rattle.lists.specs.Each.{Each}
use Rattle.lists.specs.Choices.{selected, choices}
use Rattle.lists.specs.Member.{Member, EachOnce}
use Rattle.lists.proofs.Member.{member_left, member_right, member_append, each_once_append}
use Rattle.lists.proofs.Member.{member_map, member_of_map, each_once_map, member_flat_map, member_of_flat_map, each_once_flat_map}

-- a list of one number or none, as the test says, has that number exactly where the test passes
member_if : (b : Bool) (n v : ℕ) → Member v (cond b (n ∷ []) []) ↔ ((v ≡ n) × (b ≡ true))
member_if true n v = (λ m. ⊎_elim (λ e. (e, refl)) (λ none. absurd none) m, λ x. inl x.0)
member_if false n v = (λ m. absurd m, λ x. false≢true x.1)

-- such a list has nothing twice
once_if : (b : Bool) (n : ℕ) → EachOnce (cond b (n ∷ []) [])
once_if true n = (λ m. m, tt)
once_if false n = tt

-- a number is listed exactly if it is below n and passes the test
pub selected_member : (n : ℕ) (p : ℕ → Bool) (v : ℕ) → Member v (selected n p) ↔ ((v < n) × (p v ≡ true))
unfolding selected
selected_member zero p v = (λ m. absurd m, λ x. absurd (omega arith))
selected_member (suc n) p v =
    let earlier = selected_member n p v in
    let last = member_if (p n) n v in (
      λ m. ⊎_elim (λ (k : Member v (selected n p)). (omega (arith, (earlier.0 k).0), (earlier.0 k).1))
          (λ (k : Member v (cond (p n) (n ∷ []) [])). (omega (arith, (last.0 k).0), ap p (last.0 k).0 ∙ (last.0 k).1))
          (member_append v (selected n p) _ m),
      λ x.
          let within : v ≤ n = omega arith in
          elim (eq-or-lt_of_le within) [
            | inl same ↦ member_right v (selected n p) _ (last.1 (same, ap p (sym same) ∙ x.1))
            | inr less ↦ member_left v (selected n p) _ (earlier.1 (less, x.1))
          ],
    )

-- no number is listed twice
pub selected_once : (n : ℕ) (p : ℕ → Bool) → EachOnce (selected n p)
unfolding selected
selected_once zero p = tt
selected_once (suc n) p =
    each_once_append (selected n p) _ (selected_once n p) (once_if (p n) n)
    (λ v m k. omega (arith, ((selected_member n p v).0 m).0, ((member_if (p n) n v).0 k).0))

-- every list of n numbers that satisfy P is a choice, where every number that satisfies P is a value
pub choices_complete : (P : ℕ → Type 0) (values : List ℕ) → ((v : ℕ) → P v → Member v values)
    → (n : ℕ) (xs : List ℕ) → Each P n xs → Member xs (choices n values)
unfolding choices
choices_complete P values complete zero [] e = inl refl
choices_complete P values complete zero (x ∷ xs) e = absurd e
choices_complete P values complete (suc n) [] e = absurd e
choices_complete P values complete (suc n) (x ∷ xs) e =
    member_flat_map _ (x ∷ xs) x values (complete x e.0)
    (member_map _ xs (choices n values) (choices_complete P values complete n xs e.1))

-- every choice is a list of n numbers that satisfy P, where every value does
pub choices_sound : (P : ℕ → Type 0) (values : List ℕ) → ((v : ℕ) → Member v values → P v)
    → (n : ℕ) (xs : List ℕ) → Member xs (choices n values) → Each P n xs
unfolding choices
choices_sound P values sound zero xs (inl p) = subst (λ (ys : List ℕ). Each P 0 ys) (sym p) tt
choices_sound P values sound zero xs (inr m) = absurd m
choices_sound P values sound (suc n) xs m =
    let outer = member_of_flat_map _ xs values m in
    let inner = member_of_map _ xs (choices n values) outer.2 in
    subst (λ (ys : List ℕ). Each P (suc n) ys) (sym inner.2)
    (sound outer.0 outer.1, choices_sound P values sound n inner.0 inner.1)

-- no choice is listed twice, where no value is
pub choices_once : (values : List ℕ) → EachOnce values → (n : ℕ) → EachOnce (choices n values)
unfolding choices
choices_once values once zero = (λ m. m, tt)
choices_once values once (suc n) =
    each_once_flat_map _ values once
    (λ v. each_once_map _ (choices n values) (λ ys ys' m m' p. tail-eq_of_cons-eq p) (choices_once values once n))
    (λ v v' ys m m'. head-eq_of_cons-eq (sym (member_of_map _ ys (choices n values) m).2 ∙ (member_of_map _ ys (choices n values) m').2))
