-- Rising lists: a larger number may follow, the first is the lowest, the numbers that pass a test rise, and the members determine the
-- list.
-- Assumes nothing.
use Prim.Native.Nat.{ℕ, zero, suc, ◌<◌, ◌≤◌}
use mathlib.Core.Path.{◌≡◌, refl, sym, ap, subst, ◌∙◌}
use mathlib.Core.Bool.{Bool, true, false, cond}
use mathlib.Core.List.{List, [], ◌∷◌, ◌++◌, append-nil}
use mathlib.Core.Logic.{◌↔◌, inl, inr, ⊎_elim}
use native.Mathlib.Decide.{dec_lt}
use native.Mathlib.Omega.{arith}
use lib.ListN.{length, get_or, length-append, get_or-append}
use lib.Seq.{get_or-append_seam}
use Rattle.lists.specs.Choices.{selected}
use Rattle.lists.specs.Member.{Member, Rising}
use Rattle.lists.proofs.Choices.{selected_member}
use Rattle.lists.proofs.Member.{member_at, member_place}

-- a number that is above all others may follow them
rising_append : (xs : List ℕ) (n : ℕ) → Rising xs → ((v : ℕ) → Member v xs → v < n) → Rising (xs ++ n ∷ [])
rising_append xs n rises below j inside = elim (dec_lt (suc j) (length xs)) [
  | yes before ↦
      let here : j < length xs = omega arith in
      let last = get_or-append xs (n ∷ []) 0 (suc j) before in
      rw (get_or-append xs (n ∷ []) 0 j here, last) (rises j before)
  | no not_before ↦
      let end : suc j ≡ length xs = omega (arith, length-append xs (n ∷ [])) in
      let here : j < length xs = omega arith in
      let last : get_or (xs ++ n ∷ []) (suc j) 0 ≡ n = ap (λ (k : ℕ). get_or (xs ++ n ∷ []) k 0) end ∙ get_or-append_seam xs n [] 0 in
      rw (get_or-append xs (n ∷ []) 0 j here, last) (below _ (member_at 0 xs j here))
]

-- the numbers below n that pass a test rise
pub selected_rising : (n : ℕ) (p : ℕ → Bool) → Rising (selected n p)
unfolding selected
selected_rising zero p = λ j inside. absurd (omega arith)
selected_rising (suc n) p = next (p n) (selected_rising n p)
  where
    next : (b : Bool) → Rising (selected n p) → Rising (selected n p ++ cond b (n ∷ []) [])
    next true earlier = rising_append (selected n p) n earlier (λ v m. ((selected_member n p v).0 m).0)
    next false earlier = subst Rising (sym (append-nil (selected n p))) earlier

-- the first number of a rising list is the lowest
first_least : (xs : List ℕ) → Rising xs → (j : ℕ) → j < length xs → get_or xs 0 0 ≤ get_or xs j 0
first_least xs rises zero inside = omega arith
first_least xs rises (suc j) inside = omega (arith, rises j inside, first_least xs rises j (omega arith))

-- so no member is below it
pub rising_first : (xs : List ℕ) → Rising xs → (v : ℕ) → Member v xs → get_or xs 0 0 ≤ v
rising_first xs rises v m = let (j, inside, same) = member_place 0 v xs m in omega (arith, first_least xs rises j inside)

-- and the others are above it
rising_above : (x : ℕ) (xs : List ℕ) → Rising (x ∷ xs) → (v : ℕ) → Member v xs → x < v
rising_above x [] rises v m = absurd m
rising_above x (y ∷ ys) rises v m =
    let next : x < y = rises 0 (omega arith) in
    omega (arith, next, rising_first (y ∷ ys) (λ j inside. rises (suc j) (omega arith)) v m)

-- rising lists with the same members are equal
pub rising_only : (xs ys : List ℕ) → Rising xs → Rising ys → ((v : ℕ) → Member v xs ↔ Member v ys) → xs ≡ ys
rising_only [] [] rises rises' same = refl
rising_only [] (y ∷ ys) rises rises' same = absurd ((same y).1 (inl refl))
rising_only (x ∷ xs) [] rises rises' same = absurd ((same x).0 (inl refl))
rising_only (x ∷ xs) (y ∷ ys) rises rises' same =
    let low : y ≤ x = rising_first (y ∷ ys) rises' x ((same x).0 (inl refl)) in
    let high : x ≤ y = rising_first (x ∷ xs) rises y ((same y).1 (inl refl)) in
    let equal : x ≡ y = omega (arith, low, high) in
    let rest = rising_only xs ys (λ j inside. rises (suc j) (omega arith)) (λ j inside. rises' (suc j) (omega arith)) (λ v. (
      λ m. ⊎_elim (λ e. absurd (omega (arith, rising_above x xs rises v m, e, equal))) (λ n. n) ((same v).0 (inr m)),
      λ m. ⊎_elim (λ e. absurd (omega (arith, rising_above y ys rises' v m, e, equal))) (λ n. n) ((same v).1 (inr m)),
    )) in
    λ i. equal i ∷ rest i
