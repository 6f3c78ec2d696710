-- A test, a sum and a product over the rows of an array, as an iterator gives them and by index.
-- Assumes nothing.
use Prim.Native.Nat.{ℕ, zero, suc, ◌+◌, ◌*◌, ◌%◌, ◌≤◌, ◌<◌}
use mathlib.Core.Path.{◌≡◌, sym, ap, ◌∙◌}
use mathlib.Core.Bool.{Bool, true, false}
use mathlib.Core.List.{List, [], ◌∷◌, ◌++◌}
use native.Mathlib.Numerals.{add-one}
use native.Mathlib.Omega.{arith}
use lib.ListN.{length, get_or, take, get_or-append, length-take}
use lib.Seq.{get_or-append_seam, get_or-take, take-length}
use Rattle.std.proofs.lemmas.List.{length_push}
use Rattle.std.proofs.lemmas.List.Sums.{sum_by_more}
use Rattle.std.specs.Bool.{MatchBool}
use Rattle.std.specs.List.{AllWithin, HoldsAt, sum_by}
use Rattle.numbers.specs.Product.{product, sum}
use Rattle.numbers.specs.Search.{any}
use Rattle.numbers.proofs.Product.{product_agree, sum_suc, sum_zero}
use Rattle.numbers.proofs.Search.{any_false, any_here}
use Rattle.products.specs.Players.{AgreeParts}
use Rattle.combiner.specs.Parts.{place_of}
use Rattle.combiner.proofs.Turns.{product_start, product_turn}

module _ (count : ℕ) (rows : List (List ℕ)) where
  -- the first rows of enough
  pub taken_length : count ≤ length rows → length (take count rows) ≡ count
  taken_length within = omega (arith, length-take count rows)

  -- hold what they held
  pub taken_agree : (n : ℕ) → AgreeParts count n (take count rows) rows
  taken_agree n = λ p before j inside. ap (λ (r : List ℕ). get_or r j 0) (get_or-take count rows p [] before)

module _ {A : Type 0} (d : A) where
  -- some row passes a test
  pub any_row : (test : A → Bool) (rows : List A) (r : Bool)
      → MatchBool r ((k : ℕ) × (k < length rows) × HoldsAt (λ x. test x ≡ true) rows k)
      (AllWithin (λ x. test x ≡ false) rows 0 (length rows))
      → r ≡ any (length rows) (λ p. test (get_or rows p d))
  any_row test rows true (k, inside, here) = any_here _ k _ inside (here d)
  any_row test rows false none = sym ((any_false _ _).1 (λ j inside. none j d (omega arith) inside))

  module _ (f : A → ℕ) (rows : List A) where
    -- the sum over the first n rows
    sum_first : (n : ℕ) → n ≤ length rows → sum_by f (take n rows) ≡ sum n (λ p. f (get_or rows p d))
    sum_first zero within = sym (sum_zero (λ p. f (get_or rows p d)))
    sum_first (suc n) within =
        let more : sum_by f (take (n + 1) rows) ≡ sum_by f (take n rows) + f (get_or rows n d) =
        sum_by_more f rows n d (omega arith) in
        rw add-one at more ∙ ap (λ (k : ℕ). k + f (get_or rows n d)) (sum_first n (omega arith))
        ∙ sym (sum_suc n (λ p. f (get_or rows p d)))

    -- and over all of them
    pub sum_rows : sum_by f rows ≡ sum (length rows) (λ p. f (get_or rows p d))
    sum_rows = ap (sum_by f) (sym (take-length rows)) ∙ sum_first (length rows) (omega arith)

module _ (i m : ℕ) where
  -- the value is the product of what rows hold in place i, modulo m
  abbrev pub Multiplied : List (List ℕ) → ℕ → Type 0
  Multiplied rows value = value ≡ product (length rows) (place_of rows i) % m

  -- of no rows
  pub multiplied_none : Multiplied [] (1 % m)
  multiplied_none = product_start (place_of [] i) m

  -- of one row more
  pub multiplied_more : (rows : List (List ℕ)) (row : List ℕ) {value next : ℕ} → Multiplied rows value
      → next ≡ value * get_or row i 0 % m → Multiplied (rows ++ row ∷ []) next
  unfolding place_of
  multiplied_more rows row {value} {next} is_value is_next =
      let all : List (List ℕ) = rows ++ row ∷ [] in
      let before : product (length rows) (place_of rows i) ≡ product (length rows) (place_of all i) =
      product_agree (length rows) _ _ (λ p b. ap (λ (r : List ℕ). get_or r i 0) (sym (get_or-append rows (row ∷ []) [] p b))) in
      let last : place_of all i (length rows) ≡ get_or row i 0 =
      ap (λ (r : List ℕ). get_or r i 0) (get_or-append_seam rows row [] []) in
      rw (length_push rows row)
      (product_turn (place_of all i) m (length rows) (is_value ∙ ap (λ (k : ℕ). k % m) before) (rw last is_next))
