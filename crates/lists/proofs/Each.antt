-- The values of lists of n numbers that satisfy a predicate, and of lists that are mapped or joined slot by slot.
-- Assumes nothing.
use mathlib.Core.Path.{◌≡◌, refl, ap, ◌∙◌, sym}
use mathlib.Core.HLevel.{Unit-prop, ⊥_prop, ×_prop, Σ_prop_path}
use mathlib.Core.List.{List, [], ◌∷◌, map, zip_with}
use Prim.Native.Nat.{ℕ, zero, suc, ◌<◌}
use native.Mathlib.Omega.{arith}
use lib.ListN.{length, get_or}
use lib.Seq.{ext_get_or}
use Rattle.lists.specs.Each.{Each}
use Rattle.lists.specs.Places.{places}
use Rattle.lists.proofs.Places.{length_places, get_d_places}

module _ (P : ℕ → Type 0) where
  -- a list of n numbers has length n
  pub each_length : (n : ℕ) (xs : List ℕ) → Each P n xs → length xs ≡ n
  each_length zero [] e = refl
  each_length zero (x ∷ xs) e = absurd e
  each_length (suc n) [] e = absurd e
  each_length (suc n) (x ∷ xs) e = ap suc (each_length n xs e.1)

  -- each of the n values satisfies P
  pub each_at : (n : ℕ) (xs : List ℕ) → Each P n xs → (j : ℕ) → j < n → P (get_or xs j 0)
  each_at zero xs e j h = absurd (omega arith)
  each_at (suc n) [] e j h = absurd e
  each_at (suc n) (x ∷ xs) e zero h = e.0
  each_at (suc n) (x ∷ xs) e (suc j) h = each_at n xs e.1 j (omega arith)

  -- a list of length n whose values satisfy P is a list of n numbers that do
  pub each_from : (n : ℕ) (xs : List ℕ) → length xs ≡ n → ((j : ℕ) → j < n → P (get_or xs j 0)) → Each P n xs
  each_from zero [] l values = tt
  each_from zero (x ∷ xs) l values = absurd (omega arith)
  each_from (suc n) [] l values = absurd (omega arith)
  each_from (suc n) (x ∷ xs) l values =
      (values 0 (omega arith), each_from n xs (omega arith) (λ (j : ℕ) (h : j < n). values (suc j) (omega arith)))

  -- it is a proposition that a list has n numbers that satisfy the proposition P
  pub each_proposition : ((v : ℕ) → IsProp (P v)) → (n : ℕ) (xs : List ℕ) → IsProp (Each P n xs)
  each_proposition p zero [] = Unit-prop
  each_proposition p zero (x ∷ xs) = ⊥_prop
  each_proposition p (suc n) [] = ⊥_prop
  each_proposition p (suc n) (x ∷ xs) = ×_prop (p x) (each_proposition p n xs)

  -- two lists of n numbers are equal when their values below n agree
  pub same_values : (n : ℕ) (xs ys : List ℕ) → Each P n xs → Each P n ys
      → ((j : ℕ) → j < n → get_or xs j 0 ≡ get_or ys j 0) → xs ≡ ys
  same_values n xs ys e d agree =
      ext_get_or 0 xs ys (each_length n xs e ∙ sym (each_length n ys d))
      (λ (j : ℕ) (h : j < length xs). agree j (omega (arith, each_length n xs e)))

  -- and so are the lists with what is known of them, where P is a proposition
  pub same_slots : ((v : ℕ) → IsProp (P v)) → (n : ℕ) (x y : (xs : List ℕ) × Each P n xs)
      → ((j : ℕ) → j < n → get_or x.0 j 0 ≡ get_or y.0 j 0) → x ≡ y
  same_slots p n x y agree = Σ_prop_path (each_proposition p n) (same_values n x.0 y.0 x.1 y.1 agree)

-- the first n places of an array whose values satisfy P are a list of n numbers that do
pub each_places : (P : ℕ → Type 0) (n : ℕ) (xs : List ℕ) → ((j : ℕ) → j < n → P (get_or xs j 0)) → Each P n (places n xs)
each_places P n xs values = each_from P n (places n xs) (length_places n xs) (λ j h. rw (get_d_places n xs j h) (values j h))

-- two lists of one length, joined slot by slot, give a list of that length
pub length_zip_with : (g : ℕ → ℕ → ℕ) (xs ys : List ℕ) → length xs ≡ length ys → length (zip_with g xs ys) ≡ length xs
unfolding zip_with
length_zip_with g [] ys l = refl
length_zip_with g (x ∷ xs) [] l = absurd (omega arith)
length_zip_with g (x ∷ xs) (y ∷ ys) l = ap suc (length_zip_with g xs ys (omega arith))

-- the j-th value of two lists joined slot by slot
pub value_zip_with : (g : ℕ → ℕ → ℕ) (xs ys : List ℕ) (j : ℕ) → j < length xs → j < length ys
    → get_or (zip_with g xs ys) j 0 ≡ g (get_or xs j 0) (get_or ys j 0)
unfolding zip_with
value_zip_with g [] ys j h k = absurd (omega arith)
value_zip_with g (x ∷ xs) [] j h k = absurd (omega arith)
value_zip_with g (x ∷ xs) (y ∷ ys) zero h k = refl
value_zip_with g (x ∷ xs) (y ∷ ys) (suc j) h k = value_zip_with g xs ys j (omega arith) (omega arith)

-- the j-th value of a list mapped slot by slot
pub value_map : (g : ℕ → ℕ) (xs : List ℕ) (j : ℕ) → j < length xs → get_or (map g xs) j 0 ≡ g (get_or xs j 0)
value_map g [] j h = absurd (omega arith)
value_map g (x ∷ xs) zero h = refl
value_map g (x ∷ xs) (suc j) h = value_map g xs j (omega arith)
