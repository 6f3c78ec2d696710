-- A list filled from the front: by a loop with a function's values, one store a turn, or by a copy in one step. The places beyond are as they were.
-- Assumes nothing.
use Prim.Native.Nat.{ℕ, zero, suc, ◌+◌, ◌-◌, ◌*◌, ◌≤◌, ◌<◌}
use mathlib.Core.Path.{◌≡◌, refl, sym, ap, ◌∙◌}
use mathlib.Core.List.{List, [], ◌∷◌, ◌++◌, append-nil}
use native.Mathlib.Numerals.{add-one}
use native.Mathlib.Omega.{arith}
use lib.ListN.{length, get_or, take, drop, set, replicate, length-replicate, replicate-append-replicate, drop_of_length-le}
use lib.Seq.{append_snoc, drop_at, drop-cons, set_at, take-suc}
use Rattle.lists.specs.Places.{items_at, tabulate, places, pad8}
use Rattle.lists.proofs.Places.{items_at_tabulate, length_tabulate, tabulate_suc, length_places, places_suc}

-- the first i of the n values that are to be stored stand in the list
pub record Filled {A : Type 0} (start : List A) (n : ℕ) (f : ℕ → A) (l : List A) (i : ℕ) : Type 0 where
  pub room : n ≤ length start
  pub within : i ≤ n
  pub held : l ≡ tabulate i f ++ drop i start

-- before the first store
pub filled_start : {A : Type 0} {start : List A} {n : ℕ} {f : ℕ → A} → n ≤ length start → Filled start n f start 0
unfolding tabulate items_at
filled_start room = record { room = room; within = omega arith; held = refl }

module _ {A : Type 0} {start : List A} {n : ℕ} {f : ℕ → A} {l : List A} {i : ℕ} (filled : Filled start n f l i) where
  -- a store of the next value
  pub filled_turn : {value : A} → i < n → value ≡ f i → Filled start n f (set l i value) (i + 1)
  filled_turn inside is_value =
      let before : i < length start = omega arith in
      let rest = drop-cons start i (f i) before in
      record {
        room = filled.room;
        within = omega arith;
        held =
            rw (filled.held, is_value, add-one i, tabulate_suc i f, rest)
            (set_at (tabulate i f) _ _ (f i) i (length_tabulate i f) ∙ sym (append_snoc (tabulate i f) (f i) _));
      }

  module _ (past : n ≤ i) where
    -- after the last store
    filled_end : l ≡ tabulate n f ++ drop n start
    filled_end = let all : i ≡ n = omega arith in rw all at filled.held

    -- where the values fill the list
    pub filled_whole : length start ≡ n → l ≡ tabulate n f
    filled_whole whole =
        let none = drop_of_length-le start {i = n} (omega arith) in
        filled_end ∙ ap (λ (ys : List A). tabulate n f ++ ys) none ∙ append-nil (tabulate n f)

-- what is left of m copies of d behind n places
copies_left : {A : Type 0} (d : A) (m n : ℕ) → n ≤ m → drop n (replicate m d) ≡ replicate (m - n) d
copies_left d m n few =
    let e : m ≡ n + (m - n) = omega arith in
    ap (λ (k : ℕ). drop n (replicate k d)) e ∙ ap (drop n) (sym (replicate-append-replicate n (m - n) d))
    ∙ drop_at (replicate n d) (replicate (m - n) d) n (length-replicate n d)

-- where the places were m copies of d
pub filled_copies : {A : Type 0} (d : A) (m n : ℕ) {f : ℕ → A} {l : List A} {i : ℕ} → Filled (replicate m d) n f l i → n ≤ i
    → l ≡ tabulate n f ++ replicate (m - n) d
filled_copies d m n {f} filled past =
    filled_end filled past ∙
    ap (λ (ys : List _). tabulate n f ++ ys) (copies_left d m n (omega (arith, filled.room, length-replicate m d)))

module _ {A : Type 0} {d : A} {n : ℕ} {l : List A} {i : ℕ} where
  -- where they were eight
  pub filled_eight : {f : ℕ → A} → Filled (replicate 8 d) n f l i → n ≤ i → l ≡ pad8 d (tabulate n f)
  unfolding pad8
  filled_eight {f} filled past = rw (length_tabulate n f) (filled_copies d 8 n filled past)

  -- and the values are items at a stride
  pub filled_items : (f : ℕ → A) (at step : ℕ) → Filled (replicate 8 d) n (λ j. f (at + step * j)) l i → n ≤ i
      → l ≡ pad8 d (items_at f at step n)
  filled_items f at step filled past = filled_eight filled past ∙ ap (pad8 d) (sym (items_at_tabulate f at step n))

-- ---- a copy to the front, in one step

-- the front of a list is its first places
pub take_places : (n : ℕ) (xs : List ℕ) → n ≤ length xs → take n xs ≡ places n xs
unfolding places tabulate items_at
take_places zero xs inside = refl
take_places (suc n) xs inside =
    take-suc xs n 0 inside ∙ ap (λ (ys : List ℕ). ys ++ get_or xs n 0 ∷ []) (take_places n xs (omega arith)) ∙ sym (places_suc n xs)

-- a list copied to the front of eight copies of d
pub copied_eight : {A : Type 0} (d : A) (n : ℕ) (xs : List A) → length xs ≡ n → n ≤ 8 → xs ++ drop n (replicate 8 d) ≡ pad8 d xs
unfolding pad8
copied_eight d n xs long few = rw long (ap (λ (ys : List _). xs ++ ys) (copies_left d 8 n few))

-- the first places of a list copied to the front of eight zeros
pub copied_places : (n : ℕ) (xs ys : List ℕ) → n ≤ length xs → n ≤ 8 → ys ≡ take n xs → ys ++ drop n (replicate 8 0) ≡ pad8 0 (places n xs)
copied_places n xs ys inside few copied =
    let front = copied ∙ take_places n xs inside in
    copied_eight 0 n ys (ap length front ∙ length_places n xs) few ∙ ap (pad8 0) front
