-- Numbers as bytes, high byte first: what is written is read back, what is read is written back, a number read depends
-- on its own bytes alone, and fields side by side are one field.
-- Assumes nothing.
use Prim.Native.Nat.{ℕ, zero, suc, ◌+◌, ◌*◌, ◌/◌, ◌%◌, ◌^◌, ◌≤◌, ◌<◌}
use mathlib.Core.Path.{◌≡◌, refl, sym, ap, ap₂, ◌∙◌}
use mathlib.Core.List.{List, [], ◌∷◌, ◌++◌, append_assoc, append-nil}
use native.Mathlib.Nat.{zero-add, add-zero, add-suc, mul-zero, mul-suc, mul_assoc, mod-eq_of_lt, one-le-pow, pow-suc, pow-zero, pow-succ'}
use native.Mathlib.Nat.{mod-one, div-one, div-div-eq-div-mul}
use native.Mathlib.Omega.{arith}
use lib.Arith.{digits_div, digits_mod, mod-mul}
use lib.ListN.{length, get_or, take, drop, length-append, length-drop, get_or-append}
use lib.Seq.{take-suc, take-add, drop-drop, get_or_at, get_or-take, get_or-drop}
use lib.Seq.{sets}
use Rattle.lists.specs.Places.{items_at, places}
use Rattle.lists.proofs.Places.{places_suc}
use Rattle.encoding.specs.Bytes.{number_at, bytes_of, bytes_of_each, AllBelow, AllBytes}
use Rattle.encoding.proofs.Replaced.{get_d_sets_inside}

-- ---- the bytes of a number

-- a number of width w has w bytes
pub length_bytes_of : (w v : ℕ) → length (bytes_of w v) ≡ w
unfolding bytes_of
length_bytes_of zero v = refl
length_bytes_of (suc w) v = length-append (bytes_of w (v / 256)) (v % 256 ∷ []) ∙ omega (arith, length_bytes_of w (v / 256))

-- a run of numbers of width w has w bytes for each
pub length_bytes_of_each : (w : ℕ) (vs : List ℕ) → length (bytes_of_each w vs) ≡ w * length vs
unfolding bytes_of_each
length_bytes_of_each w [] = sym (mul-zero w)
length_bytes_of_each w (v ∷ vs) =
    length-append (bytes_of w v) (bytes_of_each w vs)
    ∙ omega (arith, length_bytes_of w v, length_bytes_of_each w vs, mul-suc w (length vs))

-- two lists below a bound, joined
pub below_append : (bound : ℕ) (xs ys : List ℕ) → AllBelow bound xs → AllBelow bound ys → AllBelow bound (xs ++ ys)
below_append bound [] ys h k i = k i
below_append bound (x ∷ xs) ys h k zero = h zero
below_append bound (x ∷ xs) ys h k (suc i) = below_append bound xs ys (λ j. h (suc j)) k i

-- ---- a number depends on its own bytes alone

-- equal bytes give equal numbers
pub number_at_agree : (w : ℕ) (s t : List ℕ) (at at' : ℕ) → ((k : ℕ) → k < w → get_or s (at + k) 0 ≡ get_or t (at' + k) 0)
    → number_at w s at ≡ number_at w t at'
unfolding number_at
number_at_agree zero s t at at' h = refl
number_at_agree (suc w) s t at at' h =
    ap₂ (λ (a b : ℕ). a * 256 + b) (number_at_agree w s t at at' (λ k b. h k (omega arith))) (h w (omega arith))

-- a number of the front of a list
pub number_at_take : (w k : ℕ) (s : List ℕ) (at : ℕ) → at + w ≤ k → number_at w (take k s) at ≡ number_at w s at
number_at_take w k s at h = number_at_agree w (take k s) s at at (λ i b. get_or-take k s (at + i) 0 (omega arith))

-- ---- round trips of a number

-- the bytes of a number, read, give the number as far as they reach
pub number_at_bytes_of_mod : (w v : ℕ) (xs ys : List ℕ) → number_at w (xs ++ bytes_of w v ++ ys) (length xs) ≡ v % 256 ^ w
unfolding number_at bytes_of
number_at_bytes_of_mod zero v xs ys = sym (ap (λ (p : ℕ). v % p) (pow-zero 256) ∙ mod-one v)
number_at_bytes_of_mod (suc w) v xs ys =
    let high = bytes_of w (v / 256) in
    let e : xs ++ (high ++ v % 256 ∷ []) ++ ys ≡ xs ++ high ++ v % 256 ∷ ys = simp append_assoc in
    let at_low : length (xs ++ high) ≡ length xs + w = omega (arith, length-append xs high, length_bytes_of w (v / 256)) in
    ap (λ (s : List ℕ). number_at (suc w) s (length xs)) e
    ∙ ap₂ (λ (q r : ℕ). q * 256 + r) (number_at_bytes_of_mod w (v / 256) xs (v % 256 ∷ ys))
    (get_or_at (xs ++ high) (v % 256) ys 0 (length xs + w) at_low)
    ∙ sym (ap (λ (p : ℕ). v % p) (pow-suc 256 w) ∙ mod-mul v (one-le-pow w 256 (omega arith)) (omega arith))

-- the bytes of a number that fits them, read, give the number
pub number_at_bytes_of : (w v : ℕ) (xs ys : List ℕ) → v < 256 ^ w → number_at w (xs ++ bytes_of w v ++ ys) (length xs) ≡ v
number_at_bytes_of w v xs ys h = number_at_bytes_of_mod w v xs ys ∙ mod-eq_of_lt h

-- the bytes of a number that was read are those that it was read from
pub bytes_of_number_at : (w : ℕ) (s : List ℕ) (at : ℕ) → at + w ≤ length s → AllBytes s → bytes_of w (number_at w s at) ≡ take w (drop at s)
unfolding number_at bytes_of
bytes_of_number_at zero s at h b = refl
bytes_of_number_at (suc w) s at h b =
    let high = number_at w s at in
    ap₂ (λ (q r : ℕ). bytes_of w q ++ r ∷ []) (digits_div high (b (at + w))) (digits_mod high (b (at + w)))
    ∙ ap (λ (bs : List ℕ). bs ++ get_or s (at + w) 0 ∷ []) (bytes_of_number_at w s at (omega arith) b)
    ∙ ap (λ (r : ℕ). take w (drop at s) ++ r ∷ []) (sym (get_or-drop at s w 0))
    ∙ sym (take-suc (drop at s) w 0 (omega (arith, length-drop at s)))

-- ---- fields side by side

-- a number of a + b bytes is the number in the first a, moved up by b bytes, and the number in the b behind them
pub number_at_join : (a b : ℕ) (s : List ℕ) (at : ℕ) → number_at (a + b) s at ≡ number_at a s at * 256 ^ b + number_at b s (at + a)
unfolding number_at
number_at_join a zero s at = rw (add-zero a, pow-zero 256) (omega arith)
number_at_join a (suc b) s at =
    let high = number_at a s at in
    let place : at + (a + b) ≡ at + a + b = omega arith in
    rw (add-suc a b, pow-suc 256 b, place)
    (omega (arith, number_at_join a b s at, mul_assoc high (256 ^ b) 256))

-- the a + b bytes of a number are the a bytes of what lies above the last b, and those b
pub bytes_of_join : (a b v : ℕ) → bytes_of (a + b) v ≡ bytes_of a (v / 256 ^ b) ++ bytes_of b v
unfolding bytes_of
bytes_of_join a zero v = rw (add-zero a, pow-zero 256, div-one v, append-nil)
bytes_of_join a (suc b) v =
    rw (add-suc a b, pow-succ' 256 b, ← div-div-eq-div-mul v 256 (256 ^ b))
    (ap (λ (bs : List ℕ). bs ++ v % 256 ∷ []) (bytes_of_join a b (v / 256))
    ∙ append_assoc (bytes_of a (v / 256 / 256 ^ b)) (bytes_of b (v / 256)) (v % 256 ∷ []))

-- ---- runs of numbers

-- the bytes of two runs of numbers, joined
pub bytes_of_each_append : (w : ℕ) (us vs : List ℕ) → bytes_of_each w (us ++ vs) ≡ bytes_of_each w us ++ bytes_of_each w vs
unfolding bytes_of_each
bytes_of_each_append w [] vs = refl
bytes_of_each_append w (u ∷ us) vs =
    ap (λ (bs : List ℕ). bytes_of w u ++ bs) (bytes_of_each_append w us vs)
    ∙ sym (append_assoc (bytes_of w u) (bytes_of_each w us) (bytes_of_each w vs))

-- the bytes of one place more
pub bytes_of_each_places : (w n : ℕ) (vs : List ℕ)
    → bytes_of_each w (places (suc n) vs) ≡ bytes_of_each w (places n vs) ++ bytes_of w (get_or vs n 0)
unfolding bytes_of_each
bytes_of_each_places w n vs =
    ap (bytes_of_each w) (places_suc n vs) ∙ bytes_of_each_append w (places n vs) (get_or vs n 0 ∷ [])
    ∙ ap (λ (bs : List ℕ). bytes_of_each w (places n vs) ++ bs) (append-nil (bytes_of w (get_or vs n 0)))

-- the bytes of a run of numbers that fit them, read, give the numbers
pub items_at_bytes_of_each : (w : ℕ) (vs xs ys : List ℕ) → AllBelow (256 ^ w) vs
    → items_at (number_at w (xs ++ bytes_of_each w vs ++ ys)) (length xs) w (length vs) ≡ vs
unfolding items_at bytes_of_each
items_at_bytes_of_each w [] xs ys h = refl
items_at_bytes_of_each w (v ∷ vs) xs ys h =
    let b = bytes_of w v in
    let bs = bytes_of_each w vs in
    let e₁ : xs ++ (b ++ bs) ++ ys ≡ xs ++ b ++ (bs ++ ys) = simp append_assoc in
    let e₂ : xs ++ (b ++ bs) ++ ys ≡ xs ++ b ++ bs ++ ys = simp append_assoc in
    let next : length xs + w ≡ length (xs ++ b) = omega (arith, length-append xs b, length_bytes_of w v) in
    ap₂ (λ (u : ℕ) (us : List ℕ). u ∷ us)
    (ap (λ (s : List ℕ). number_at w s (length xs)) e₁ ∙ number_at_bytes_of w v xs (bs ++ ys) (h zero))
    (ap₂ (λ (s : List ℕ) (at : ℕ). items_at (number_at w s) at w (length vs)) e₂ next
    ∙ items_at_bytes_of_each w vs (xs ++ b) ys (λ i. h (suc i)))

-- the bytes of a run of numbers that were read are those that they were read from
pub bytes_of_each_items_at : (w : ℕ) (s : List ℕ) (at n : ℕ) → at + w * n ≤ length s → AllBytes s
    → bytes_of_each w (items_at (number_at w s) at w n) ≡ take (w * n) (drop at s)
unfolding items_at bytes_of_each
bytes_of_each_items_at w s at zero h b = rw (mul-zero w)
bytes_of_each_items_at w s at (suc n) h b =
    let e : w * suc n ≡ w + w * n = omega (arith, mul-suc w n) in
    ap₂ (λ (us vs : List ℕ). us ++ vs) (bytes_of_number_at w s at (omega arith) b) (bytes_of_each_items_at w s (at + w) n (omega arith) b)
    ∙ sym (ap (λ (k : ℕ). take k (drop at s)) e ∙ take-add w (w * n) (drop at s)
    ∙ ap (λ (r : List ℕ). take w (drop at s) ++ take (w * n) r) (drop-drop w at s))

-- ---- numbers that stand behind a part of a list

-- a number that stands behind xs is read at the length of xs
pub number_behind : (w v : ℕ) (xs ys s : List ℕ) (at : ℕ) → s ≡ xs ++ bytes_of w v ++ ys → length xs ≡ at → v < 256 ^ w
    → number_at w s at ≡ v
number_behind w v xs ys s at e l b =
    ap₂ (λ (bs : List ℕ) (k : ℕ). number_at w bs k) e (sym l) ∙ number_at_bytes_of w v xs ys b

-- a run of numbers that stands behind xs is read from the length of xs on
pub numbers_behind : (w : ℕ) (vs xs ys s : List ℕ) (at n : ℕ) → s ≡ xs ++ bytes_of_each w vs ++ ys → length xs ≡ at → length vs ≡ n
    → AllBelow (256 ^ w) vs → items_at (number_at w s) at w n ≡ vs
numbers_behind w vs xs ys s at n e l m b =
    ap₂ (λ (k j : ℕ). items_at (number_at w s) k w j) (sym l) (sym m)
    ∙ ap (λ (bs : List ℕ). items_at (number_at w bs) (length xs) w (length vs)) e ∙ items_at_bytes_of_each w vs xs ys b

-- ---- a list from its front on

-- a front and the bytes of the number behind it are a longer front
pub take_bytes_of : (w : ℕ) (s : List ℕ) (at : ℕ) → at + w ≤ length s → AllBytes s
    → take at s ++ bytes_of w (number_at w s at) ≡ take (at + w) s
take_bytes_of w s at h b = ap (λ (bs : List ℕ). take at s ++ bs) (bytes_of_number_at w s at h b) ∙ sym (take-add at w s)

-- a front and the bytes of the run of numbers behind it are a longer front
pub take_bytes_of_each : (w : ℕ) (s : List ℕ) (at n : ℕ) → at + w * n ≤ length s → AllBytes s
    → take at s ++ bytes_of_each w (items_at (number_at w s) at w n) ≡ take (at + w * n) s
take_bytes_of_each w s at n h b =
    ap (λ (bs : List ℕ). take at s ++ bs) (bytes_of_each_items_at w s at n h b) ∙ sym (take-add at (w * n) s)

-- a number stored in a list is read back
pub number_at_sets : (w v : ℕ) (l : List ℕ) (i : ℕ) → i + w ≤ length l → v < 256 ^ w → number_at w (sets l i (bytes_of w v)) i ≡ v
number_at_sets w v l i h b =
    number_at_agree w (sets l i (bytes_of w v)) (bytes_of w v ++ []) i 0
    (λ k c.
    let inside : k < length (bytes_of w v) = omega (arith, length_bytes_of w v) in
    get_d_sets_inside l i (bytes_of w v) k 0 (omega (arith, length_bytes_of w v)) inside
    ∙ sym (ap (λ (j : ℕ). get_or (bytes_of w v ++ []) j 0) (zero-add k) ∙ get_or-append (bytes_of w v) [] 0 k inside))
    ∙ number_at_bytes_of w v [] [] b

-- ---- numbers of one byte

-- a number of one byte is the byte
pub number_at_one : (s : List ℕ) (at : ℕ) → number_at 1 s at ≡ get_or s at 0
unfolding number_at
number_at_one s at = zero-add (get_or s (at + 0) 0) ∙ ap (λ (i : ℕ). get_or s i 0) (add-zero at)

-- the one byte of a number
pub bytes_of_one : (v : ℕ) → bytes_of 1 v ≡ v % 256 ∷ []
unfolding bytes_of
bytes_of_one v = refl
