-- Members of lists by their places, members of lists that are joined or mapped, and when such lists are without repetition.
-- Assumes nothing.
use Prim.Native.Nat.{ℕ, zero, suc, ◌<◌}
use mathlib.Core.Path.{◌≡◌, refl, sym, ap, subst}
use mathlib.Core.Logic.{◌⊎◌, ◌↔◌, inl, inr, ⊎_elim}
use mathlib.Core.List.{List, [], ◌∷◌, ◌++◌, map, flat_map}
use native.Mathlib.Omega.{arith}
use lib.ListN.{length, get_or}
use Rattle.lists.specs.Member.{Member, EachOnce}

module _ {A : Type 0} where
  -- what stands at a place of a list is a member of it
  pub member_at : (d : A) (xs : List A) (j : ℕ) → j < length xs → Member (get_or xs j d) xs
  member_at d [] j h = absurd (omega arith)
  member_at d (x ∷ xs) zero h = inl refl
  member_at d (x ∷ xs) (suc j) h = inr (member_at d xs j (omega arith))

  -- a member of a list stands at a place of it
  pub member_place : (d x : A) (xs : List A) → Member x xs → (j : ℕ) × (j < length xs) × (x ≡ get_or xs j d)
  member_place d x [] m = absurd m
  member_place d x (y ∷ xs) (inl p) = (0, omega arith, p)
  member_place d x (y ∷ xs) (inr m) = let (j, h, e) = member_place d x xs m in (suc j, omega arith, e)

  -- what holds at every place of a list holds of every member, and the other way round
  pub each_member : (d : A) (P : A → Type 0) (xs : List A)
      → ((k : ℕ) → k < length xs → P (get_or xs k d)) ↔ ((x : A) → Member x xs → P x)
  each_member d P xs = (
    λ each x m. let (k, inside, e) = member_place d x xs m in subst P (sym e) (each k inside),
    λ every k inside. every (get_or xs k d) (member_at d xs k inside),
  )

  -- a member of the first list is a member of the joined list
  pub member_left : (x : A) (xs ys : List A) → Member x xs → Member x (xs ++ ys)
  member_left x [] ys m = absurd m
  member_left x (y ∷ xs) ys (inl p) = inl p
  member_left x (y ∷ xs) ys (inr m) = inr (member_left x xs ys m)

  -- a member of the second list is a member of the joined list
  pub member_right : (x : A) (xs ys : List A) → Member x ys → Member x (xs ++ ys)
  member_right x [] ys m = m
  member_right x (y ∷ xs) ys m = inr (member_right x xs ys m)

  -- a member of the joined list is a member of one of the two
  pub member_append : (x : A) (xs ys : List A) → Member x (xs ++ ys) → Member x xs ⊎ Member x ys
  member_append x [] ys m = inr m
  member_append x (y ∷ xs) ys (inl p) = inl (inl p)
  member_append x (y ∷ xs) ys (inr m) = ⊎_elim (λ (l : Member x xs). inl (inr l)) (λ (r : Member x ys). inr r) (member_append x xs ys m)

  -- two lists without repetition and without a common member are joined to one without repetition
  pub each_once_append : (xs ys : List A) → EachOnce xs → EachOnce ys → ((x : A) → Member x xs → ¬ Member x ys) → EachOnce (xs ++ ys)
  each_once_append [] ys once once' apart = once'
  each_once_append (x ∷ xs) ys once once' apart = (
    λ m. ⊎_elim once.0 (apart x (inl refl)) (member_append x xs ys m),
    each_once_append xs ys once.1 once' (λ y m. apart y (inr m)),
  )

module _ {A B : Type 0} (g : A → B) where
  -- the image of a member is a member of the mapped list
  pub member_map : (x : A) (xs : List A) → Member x xs → Member (g x) (map g xs)
  member_map x [] m = absurd m
  member_map x (y ∷ xs) (inl p) = inl (ap g p)
  member_map x (y ∷ xs) (inr m) = inr (member_map x xs m)

  -- a member of the mapped list is the image of a member
  pub member_of_map : (y : B) (xs : List A) → Member y (map g xs) → (x : A) × Member x xs × (y ≡ g x)
  member_of_map y [] m = absurd m
  member_of_map y (x ∷ xs) (inl p) = (x, inl refl, p)
  member_of_map y (x ∷ xs) (inr m) = let found = member_of_map y xs m in (found.0, inr found.1, found.2)

  -- a map that is injective on the list's members keeps it without repetition
  pub each_once_map : (xs : List A) → ((x y : A) → Member x xs → Member y xs → g x ≡ g y → x ≡ y) → EachOnce xs → EachOnce (map g xs)
  each_once_map [] injective once = tt
  each_once_map (x ∷ xs) injective once = (
    λ m. let found = member_of_map (g x) xs m in
        once.0 (subst (λ (y : A). Member y xs) (sym (injective x found.0 (inl refl) (inr found.1) found.2)) found.1),
    each_once_map xs (λ y y' m m'. injective y y' (inr m) (inr m')) once.1,
  )

module _ {A B : Type 0} (g : A → List B) where
  -- a member of the list of a member is a member of all lists joined
  pub member_flat_map : (y : B) (x : A) (xs : List A) → Member x xs → Member y (g x) → Member y (flat_map g xs)
  unfolding flat_map
  member_flat_map y x [] m k = absurd m
  member_flat_map y x (x' ∷ xs) (inl p) k = member_left y (g x') (flat_map g xs) (subst (λ (v : A). Member y (g v)) p k)
  member_flat_map y x (x' ∷ xs) (inr m) k = member_right y (g x') (flat_map g xs) (member_flat_map y x xs m k)

  -- a member of all lists joined is a member of the list of a member
  pub member_of_flat_map : (y : B) (xs : List A) → Member y (flat_map g xs) → (x : A) × Member x xs × Member y (g x)
  unfolding flat_map
  member_of_flat_map y [] m = absurd m
  member_of_flat_map y (x ∷ xs) m =
      ⊎_elim (λ (k : Member y (g x)). (x, inl refl, k))
      (λ (k : Member y (flat_map g xs)). let found = member_of_flat_map y xs k in (found.0, inr found.1, found.2))
      (member_append y (g x) (flat_map g xs) m)

  -- lists without repetition that have no common member are joined to one without repetition
  pub each_once_flat_map : (xs : List A) → EachOnce xs → ((x : A) → EachOnce (g x))
      → ((x x' : A) (y : B) → Member y (g x) → Member y (g x') → x ≡ x') → EachOnce (flat_map g xs)
  unfolding flat_map
  each_once_flat_map [] once inner apart = tt
  each_once_flat_map (x ∷ xs) once inner apart =
      each_once_append (g x) (flat_map g xs) (inner x) (each_once_flat_map xs once.1 inner apart) (λ y m k.
      let found = member_of_flat_map y xs k in
      once.0 (subst (λ (v : A). Member v xs) (sym (apart x found.0 y m found.2)) found.1))
