-- Bytes replaced: `sets l i vs` is the list l with vs stored from index i on, and every other element as it was.
-- Assumes nothing.
use Prim.Native.Nat.{ℕ, zero, suc, ◌+◌, ◌-◌, ◌≤◌, ◌<◌}
use mathlib.Core.Path.{◌≡◌, refl, sym, ap, ap₂, ◌∙◌}
use mathlib.Core.List.{List, [], ◌∷◌, ◌++◌, append_assoc}
use native.Mathlib.Decide.{dec_lt}
use native.Mathlib.Nat.{add-zero, add-suc}
use native.Mathlib.Omega.{arith}
use lib.ListN.{length, get_or, take, drop, set, take-append-drop, length-set, length-append}
use lib.Seq.{sets, sets-eq, get_or-set_same, get_or-set_other, take-set-le, take-set-lt, drop-set-lt, drop-set-add}
use lib.Seq.{length-take-le, drop_at, set_out, take-append_seam, take-nil}

module _ {ℓ} {A : Type ℓ} where
  -- ---- one run after another

  -- two runs of stores, the second straight behind the first, are one
  pub sets_sets : (l : List A) (i : ℕ) (xs ys : List A) → sets (sets l i xs) (i + length xs) ys ≡ sets l i (xs ++ ys)
  sets_sets l i [] ys = ap (λ (k : ℕ). sets l k ys) (add-zero i)
  sets_sets l i (x ∷ xs) ys =
      let e : i + suc (length xs) ≡ suc i + length xs = omega arith in
      ap (λ (k : ℕ). sets (sets (set l i x) (suc i) xs) k ys) e ∙ sets_sets (set l i x) (suc i) xs ys

  -- ---- a run that has no room

  -- a run beyond the end changes nothing
  pub sets_out : (l : List A) (i : ℕ) (vs : List A) → length l ≤ i → sets l i vs ≡ l
  sets_out l i [] h = refl
  sets_out l i (v ∷ vs) h = sets_out (set l i v) (suc i) vs (omega (arith, length-set l i v)) ∙ set_out l i v h

  -- what has no room changes nothing
  pub sets_fitting : (l : List A) (i : ℕ) (vs : List A) → sets l i (take (length l - i) vs) ≡ sets l i vs
  sets_fitting l i [] = ap (sets l i) (take-nil (length l - i))
  sets_fitting l i (v ∷ vs) = elim (dec_lt i (length l)) [
    | yes less ↦
        let some : length l - i ≡ suc (length (set l i v) - suc i) = omega (arith, length-set l i v) in
        ap (λ (k : ℕ). sets l i (take k (v ∷ vs))) some ∙ sets_fitting (set l i v) (suc i) vs
    | no past ↦
        let none : length l - i ≡ 0 = omega arith in
        ap (λ (k : ℕ). sets l i (take k (v ∷ vs))) none ∙ sym (sets_out l i (v ∷ vs) (omega arith))
  ]

  -- ---- reading

  -- an element before the run is as it was
  pub get_d_sets_before : (l : List A) (i : ℕ) (vs : List A) (j : ℕ) (d : A) → j < i → get_or (sets l i vs) j d ≡ get_or l j d
  get_d_sets_before l i [] j d h = refl
  get_d_sets_before l i (v ∷ vs) j d h = get_d_sets_before (set l i v) (suc i) vs j d (omega arith) ∙ get_or-set_other l i j v d (omega arith)

  -- an element behind the run is as it was
  pub get_d_sets_behind : (l : List A) (i : ℕ) (vs : List A) (j : ℕ) (d : A) → i + length vs ≤ j → get_or (sets l i vs) j d ≡ get_or l j d
  get_d_sets_behind l i [] j d h = refl
  get_d_sets_behind l i (v ∷ vs) j d h = get_d_sets_behind (set l i v) (suc i) vs j d (omega arith) ∙ get_or-set_other l i j v d (omega arith)

  -- an element of the run is what was stored
  pub get_d_sets_inside : (l : List A) (i : ℕ) (vs : List A) (j : ℕ) (d : A) → i + length vs ≤ length l → j < length vs
      → get_or (sets l i vs) (i + j) d ≡ get_or vs j d
  get_d_sets_inside l i [] j d h b = absurd (omega arith)
  get_d_sets_inside l i (v ∷ vs) zero d h b =
      ap (λ (k : ℕ). get_or (sets (set l i v) (suc i) vs) k d) (add-zero i)
      ∙ get_d_sets_before (set l i v) (suc i) vs i d (omega arith) ∙ get_or-set_same l i v d (omega arith)
  get_d_sets_inside l i (v ∷ vs) (suc j) d h b =
      let e : i + suc j ≡ suc i + j = omega arith in
      ap (λ (k : ℕ). get_or (sets (set l i v) (suc i) vs) k d) e
      ∙ get_d_sets_inside (set l i v) (suc i) vs j d (omega (arith, length-set l i v)) (omega arith)

  -- ---- parts

  -- the part before the run is as it was
  pub take_sets_before : (n : ℕ) (l : List A) (i : ℕ) (vs : List A) → n ≤ i → take n (sets l i vs) ≡ take n l
  take_sets_before n l i [] h = refl
  take_sets_before n l i (v ∷ vs) h = take_sets_before n (set l i v) (suc i) vs (omega arith) ∙ take-set-le n l i v h

  -- the part behind the run is as it was
  pub drop_sets_behind : (n : ℕ) (l : List A) (i : ℕ) (vs : List A) → i + length vs ≤ n → drop n (sets l i vs) ≡ drop n l
  drop_sets_behind n l i [] h = refl
  drop_sets_behind n l i (v ∷ vs) h = drop_sets_behind n (set l i v) (suc i) vs (omega arith) ∙ drop-set-lt n l i v (omega arith)

  -- a front that holds the run
  pub take_sets_inside : (n : ℕ) (l : List A) (i : ℕ) (vs : List A) → i + length vs ≤ n → take n (sets l i vs) ≡ sets (take n l) i vs
  take_sets_inside n l i [] h = refl
  take_sets_inside n l i (v ∷ vs) h =
      take_sets_inside n (set l i v) (suc i) vs (omega arith) ∙ ap (λ (m : List A). sets m (suc i) vs) (take-set-lt n l i v (omega arith))

  -- the run itself
  pub part_sets : (l : List A) (i : ℕ) (vs : List A) → i + length vs ≤ length l → take (length vs) (drop i (sets l i vs)) ≡ vs
  part_sets l i vs h =
      let rest = drop (i + length vs) l in
      ap (λ (m : List A). take (length vs) (drop i m)) (sets-eq vs l i h ∙ append_assoc (take i l) vs rest)
      ∙ ap (λ (m : List A). take (length vs) m) (drop_at (take i l) (vs ++ rest) i (length-take-le i l (omega arith)))
      ∙ take-append_seam vs rest

  -- a run at the front
  pub take_sets_front : (l vs : List A) → length vs ≤ length l → take (length vs) (sets l 0 vs) ≡ vs
  take_sets_front l vs h = part_sets l 0 vs (omega arith)

  -- a run in the middle of a list, replaced by one of the same length
  pub sets_middle : (xs ys zs vs : List A) → length vs ≡ length ys → sets (xs ++ ys ++ zs) (length xs) vs ≡ xs ++ vs ++ zs
  sets_middle xs ys zs vs e =
      let l = xs ++ ys ++ zs in
      let size : length l ≡ length xs + length ys + length zs = simp length-append in
      let seam : length (xs ++ ys) ≡ length xs + length vs = omega (arith, length-append xs ys) in
      let front : take (length xs) l ≡ xs = simp append_assoc (take-append_seam xs (ys ++ zs)) in
      rw (sets-eq vs l (length xs) (omega arith), front, drop_at (xs ++ ys) zs (length xs + length vs) seam)

  -- what stands behind a run at the front
  pub drop_sets_front : (l vs : List A) → drop (length vs) (sets l 0 vs) ≡ drop (length vs) l
  drop_sets_front l vs = drop_sets_behind (length vs) l 0 vs (omega arith)

  -- ---- a part that is lent and comes back

  -- a run stored in the rest of a list, from index `at` on, is stored in the list
  pub rest_replaced : (at : ℕ) (l : List A) (i : ℕ) (vs : List A) → take at l ++ sets (drop at l) i vs ≡ sets l (at + i) vs
  rest_replaced at l i [] = take-append-drop at l
  rest_replaced at l i (v ∷ vs) =
      ap₂ (λ (m n : List A). m ++ sets n (suc i) vs) (sym (take-set-le at l (at + i) v (omega arith))) (sym (drop-set-add at l i v))
      ∙ rest_replaced at (set l (at + i) v) (suc i) vs ∙ ap (λ (k : ℕ). sets (set l (at + i) v) k vs) (add-suc at i)

  -- a run stored in a lent part, k elements from index `at` on, is stored in the list once the part is back
  pub part_replaced : (at k : ℕ) (l : List A) (i : ℕ) (vs : List A) → i + length vs ≤ k
      → take at l ++ (sets (take k (drop at l)) i vs ++ drop k (drop at l)) ≡ sets l (at + i) vs
  part_replaced at k l i vs h =
      let r = drop at l in
      ap₂ (λ (m n : List A). take at l ++ (m ++ n)) (sym (take_sets_inside k r i vs h)) (sym (drop_sets_behind k r i vs h))
      ∙ ap (λ (m : List A). take at l ++ m) (take-append-drop k (sets r i vs)) ∙ rest_replaced at l i vs

  -- a run stored at the front of a lent part
  pub part_replaced_front : (at k : ℕ) (l vs : List A) → length vs ≤ k
      → take at l ++ (sets (take k (drop at l)) 0 vs ++ drop k (drop at l)) ≡ sets l at vs
  part_replaced_front at k l vs h = part_replaced at k l 0 vs (omega arith) ∙ ap (λ (j : ℕ). sets l j vs) (add-zero at)
