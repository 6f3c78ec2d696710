-- Lists by index: the length, the items and the parts of items at a stride, of the places that are read, and of padding.
-- Assumes nothing.
use Prim.Native.Nat.{ℕ, zero, suc, ◌+◌, ◌-◌, ◌*◌, ◌≤◌, ◌<◌}
use mathlib.Core.Path.{◌≡◌, refl, sym, ap, ap₂, ◌∙◌}
use mathlib.Core.Logic.{◌↔◌}
use mathlib.Core.List.{List, [], ◌∷◌, ◌++◌}
use native.Mathlib.Nat.{zero-add, suc-add, mul-suc, mul-zero}
use native.Mathlib.Numerals.{add-one}
use native.Mathlib.Omega.{arith}
use lib.ListN.{length, get_or, replicate}
use lib.ListN.{get_or-append}
use lib.Seq.{ext_get_or}
use Rattle.lists.specs.Places.{items_at, tabulate, places, pad8, zeros8}

-- ---- items at a stride

module _ {ℓ} {A : Type ℓ} where
  -- there are as many items as were asked for
  pub length_items_at : (f : ℕ → A) (at step n : ℕ) → length (items_at f at step n) ≡ n
  unfolding items_at
  length_items_at f at step zero = refl
  length_items_at f at step (suc n) = ap suc (length_items_at f (at + step) step n)

  -- item j is f at `at`, moved on by j strides
  pub get_d_items_at : (f : ℕ → A) (at step n j : ℕ) (d : A) → j < n → get_or (items_at f at step n) j d ≡ f (at + step * j)
  unfolding items_at
  get_d_items_at f at step zero j d h = absurd (omega arith)
  get_d_items_at f at step (suc n) zero d h = ap f (omega (arith, mul-zero step))
  get_d_items_at f at step (suc n) (suc j) d h = get_d_items_at f (at + step) step n j d (omega arith) ∙ ap f (omega (arith, mul-suc step j))

  -- two runs of items are equal where their items are, one by one
  pub items_at_agree : (f g : ℕ → A) (at step at' step' n : ℕ) → ((j : ℕ) → j < n → f (at + step * j) ≡ g (at' + step' * j))
      → items_at f at step n ≡ items_at g at' step' n
  unfolding items_at
  items_at_agree f g at step at' step' zero h = refl
  items_at_agree f g at step at' step' (suc n) h =
      ap₂ (λ (x : A) (xs : List A). x ∷ xs)
      (ap f (omega (arith, mul-zero step)) ∙ h zero (omega arith) ∙ ap g (omega (arith, mul-zero step')))
      (items_at_agree f g (at + step) step (at' + step') step' n
      (λ j b. ap f (omega (arith, mul-suc step j)) ∙ h (suc j) (omega arith) ∙ ap g (omega (arith, mul-suc step' j))))

  -- items of a sum of counts: the first ones, then those that follow
  pub items_at_add : (f : ℕ → A) (at step m n : ℕ)
      → items_at f at step (m + n) ≡ items_at f at step m ++ items_at f (at + step * m) step n
  unfolding items_at
  items_at_add f at step zero n =
      let e : at ≡ at + step * 0 = omega (arith, mul-zero step) in
      ap (λ (k : ℕ). items_at f at step k) (zero-add n) ∙ ap (λ (a : ℕ). items_at f a step n) e
  items_at_add f at step (suc m) n =
      let e : at + step + step * m ≡ at + step * suc m = omega (arith, mul-suc step m) in
      ap (λ (k : ℕ). items_at f at step k) (suc-add m n)
      ∙ ap (λ (xs : List A). f at ∷ xs)
      (items_at_add f (at + step) step m n ∙ ap (λ (a : ℕ). items_at f (at + step) step m ++ items_at f a step n) e)

  -- one item more, at the end
  pub items_at_suc : (f : ℕ → A) (at step n : ℕ) → items_at f at step (suc n) ≡ items_at f at step n ++ f (at + step * n) ∷ []
  unfolding items_at
  items_at_suc f at step n = ap (λ (k : ℕ). items_at f at step k) (sym (add-one n)) ∙ items_at_add f at step n 1

  -- ---- a function's first values

  -- there are n of them
  pub length_tabulate : (n : ℕ) (f : ℕ → A) → length (tabulate n f) ≡ n
  unfolding tabulate
  length_tabulate n f = length_items_at f 0 1 n

  -- value j stands at place j
  pub get_d_tabulate : (n : ℕ) (f : ℕ → A) (j : ℕ) (d : A) → j < n → get_or (tabulate n f) j d ≡ f j
  unfolding tabulate
  get_d_tabulate n f j d h = get_d_items_at f 0 1 n j d h ∙ ap f (omega arith)

  -- functions that agree below n have the same first n values
  pub tabulate_agree : (n : ℕ) (f g : ℕ → A) → ((j : ℕ) → j < n → f j ≡ g j) → tabulate n f ≡ tabulate n g
  unfolding tabulate
  tabulate_agree n f g h = items_at_agree f g 0 1 0 1 n (λ j b. h (0 + 1 * j) (omega arith))

  -- items at a stride are the values of a function of their index
  pub items_at_tabulate : (f : ℕ → A) (at step n : ℕ) → items_at f at step n ≡ tabulate n (λ j. f (at + step * j))
  unfolding tabulate
  items_at_tabulate f at step n =
      items_at_agree f (λ (j : ℕ). f (at + step * j)) at step 0 1 n (λ j b. ap (λ (k : ℕ). f (at + step * k)) (omega arith))

  -- one value more, at the end: a loop that fills a list from the front
  pub tabulate_suc : (n : ℕ) (f : ℕ → A) → tabulate (suc n) f ≡ tabulate n f ++ f n ∷ []
  unfolding tabulate
  tabulate_suc n f =
      let e : 0 + 1 * n ≡ n = omega arith in
      items_at_suc f 0 1 n ∙ ap (λ (k : ℕ). items_at f 0 1 n ++ f k ∷ []) e

  -- ---- eight places

  -- an element's place is the same after padding
  pub get_d_pad8_inside : (d : A) (xs : List A) (j : ℕ) (e : A) → j < length xs → get_or (pad8 d xs) j e ≡ get_or xs j e
  unfolding pad8
  get_d_pad8_inside d xs j e h = get_or-append xs (replicate (8 - length xs) d) e j h

  -- a copy of d and what lies beyond it are read as d
  get_d_copies : (k : ℕ) (d : A) (j : ℕ) → get_or (replicate k d) j d ≡ d
  get_d_copies zero d j = refl
  get_d_copies (suc k) d zero = refl
  get_d_copies (suc k) d (suc j) = get_d_copies k d j

  -- copies of d put behind a list are read as what is missing
  get_d_behind : (xs : List A) (k : ℕ) (d : A) (j : ℕ) → get_or (xs ++ replicate k d) j d ≡ get_or xs j d
  get_d_behind [] k d j = get_d_copies k d j
  get_d_behind (x ∷ xs) k d zero = refl
  get_d_behind (x ∷ xs) k d (suc j) = get_d_behind xs k d j

  -- read with d for what is missing, padding by d changes nothing
  pub get_d_pad8 : (d : A) (xs : List A) (j : ℕ) → get_or (pad8 d xs) j d ≡ get_or xs j d
  unfolding pad8
  get_d_pad8 d xs j = get_d_behind xs (8 - length xs) d j

  -- ---- a list that is known by its values

  -- a place of a function's first values
  pub tabulate_at : (n : ℕ) (f : ℕ → A) (d : A) {xs : List A} → xs ≡ tabulate n f → (j : ℕ) → j < n → get_or xs j d ≡ f j
  tabulate_at n f d are j h = ap (λ (l : List A). get_or l j d) are ∙ get_d_tabulate n f j d h

  -- and of eight places that hold them
  pub pad8_at : (n : ℕ) (f : ℕ → A) (d : A) {xs : List A} → xs ≡ pad8 d (tabulate n f) → (j : ℕ) → j < n → get_or xs j d ≡ f j
  pad8_at n f d are j h = ap (λ (l : List A). get_or l j d) are ∙ get_d_pad8 d (tabulate n f) j ∙ get_d_tabulate n f j d h

-- ---- the places of an array of numbers that are read

-- there are n of them
pub length_places : (n : ℕ) (xs : List ℕ) → length (places n xs) ≡ n
unfolding places
length_places n xs = length_tabulate n (λ j. get_or xs j 0)

-- each of them is the array's
pub get_d_places : (n : ℕ) (xs : List ℕ) (j : ℕ) → j < n → get_or (places n xs) j 0 ≡ get_or xs j 0
unfolding places
get_d_places n xs j h = get_d_tabulate n (λ k. get_or xs k 0) j 0 h

-- one place more, at the end
pub places_suc : (n : ℕ) (xs : List ℕ) → places (suc n) xs ≡ places n xs ++ get_or xs n 0 ∷ []
unfolding places
places_suc n xs = tabulate_suc n (λ j. get_or xs j 0)

-- arrays that agree in the first n places have the same first n places: what lies beyond is not read
pub places_agree : (n : ℕ) (xs ys : List ℕ) → ((j : ℕ) → j < n → get_or xs j 0 ≡ get_or ys j 0) → places n xs ≡ places n ys
unfolding places
places_agree n xs ys h = tabulate_agree n (λ j. get_or xs j 0) (λ j. get_or ys j 0) h

-- fewer places of a function's first values
pub places_tabulate : (m n : ℕ) (f : ℕ → ℕ) → m ≤ n → places m (tabulate n f) ≡ tabulate m f
unfolding places
places_tabulate m n f h = tabulate_agree m _ f (λ j b. get_d_tabulate n f j 0 (omega arith))

-- fewer places of the places that are read
pub places_places : (m n : ℕ) (xs : List ℕ) → m ≤ n → places m (places n xs) ≡ places m xs
places_places m n xs h = places_agree m (places n xs) xs (λ j b. get_d_places n xs j (omega arith))

-- zeros put behind a list leave its places as they are
pub places_pad8 : (n : ℕ) (xs : List ℕ) → places n (pad8 0 xs) ≡ places n xs
places_pad8 n xs = places_agree n (pad8 0 xs) xs (λ j b. get_d_pad8 0 xs j)

-- a list of n numbers is its n places
pub places_whole : (n : ℕ) (xs : List ℕ) → length xs ≡ n → places n xs ≡ xs
places_whole n xs e =
    ext_get_or 0 (places n xs) xs (length_places n xs ∙ sym e) (λ j b. get_d_places n xs j (omega (arith, length_places n xs)))

-- so an array's first n places are a list exactly if that has n numbers and they agree
pub places_is : (n : ℕ) (xs ys : List ℕ)
    → (places n xs ≡ ys) ↔ ((n ≡ length ys) × ((j : ℕ) → j < length ys → get_or xs j 0 ≡ get_or ys j 0))
places_is n xs ys = (
  λ e.
      let long : n ≡ length ys = sym (length_places n xs) ∙ ap length e in
      (long, λ j b. sym (get_d_places n xs j (omega arith)) ∙ ap (λ (l : List ℕ). get_or l j 0) e),
  λ (long, same). ap (λ (k : ℕ). places k xs) long ∙ places_agree (length ys) xs ys same ∙ places_whole (length ys) ys refl,
)

-- each of eight zeros is 0, and so is what lies beyond
pub get_d_zeros8 : (j : ℕ) → get_or zeros8 j 0 ≡ 0
unfolding zeros8
get_d_zeros8 j = get_d_copies 8 0 j
