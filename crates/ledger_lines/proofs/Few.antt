-- Tests over two or three places, place by place.
-- Assumes nothing.
use Prim.Native.Nat.{ℕ}
use mathlib.Core.Path.{◌≡◌, ap, sym, ◌∙◌}
use mathlib.Core.Bool.{Bool, false, not, or_assoc, or-false, ◌||◌}
use mathlib.Core.Logic.{◌≢◌}
use mathlib.Core.List.{List, ◌∷◌}
use lib.Dec.{leb, ltb}
use lib.ListN.{get_or}
use native.Mathlib.Decide.{dec_lt}
use native.Mathlib.Omega.{arith}
use borrow.Author.Tests.{le-leb, le-ltb, lt-leb, lt-ltb, ne_eqb}
use Rattle.numbers.specs.Search.{any}
use Rattle.numbers.proofs.Search.{any_agree, any_start, any_suc}
use Rattle.sigma.specs.Element.{is_coordinate, is_element, some_non_coordinate, some_non_element}
use Rattle.sigma.specs.Instance.{is_exponent}
use Rattle.types.specs.declared.Header.{Header}
use Rattle.ledgers.specs.Check.{bad_elements}
use Rattle.ledgers.specs.Refusals.{product_header}
use Rattle.ledgers.specs.declared.Base.{Base}
use Rattle.ledgers.specs.declared.Line.{Line}

-- two places
any_two : (p : ℕ → Bool) → any 2 p ≡ p 0 || p 1
any_two p = any_suc 1 p ∙ ap (λ (b : Bool). b || p 1) (any_suc 0 p ∙ ap (λ (b : Bool). b || p 0) (any_start p))

-- three places
any_three : (p : ℕ → Bool) → any 3 p ≡ p 0 || (p 1 || p 2)
any_three p = any_suc 2 p ∙ ap (λ (b : Bool). b || p 2) (any_two p) ∙ or_assoc (p 0) (p 1) (p 2)

-- two values that stand first in a longer list
pub two_elements : (h : Header) (v w : ℕ) (xs ys : List ℕ) → some_non_element h 2 (v ∷ w ∷ xs) ≡ some_non_element h 2 (v ∷ w ∷ ys)
unfolding some_non_element
two_elements h v w xs ys = any_two _ ∙ sym (any_two _)

-- a commitment and both values of t
three_elements : (h : Header) (v : ℕ) (t xs : List ℕ)
    → some_non_element h 3 (v ∷ get_or t 0 0 ∷ get_or t 1 0 ∷ xs) ≡ not (is_element h v) || some_non_element h 2 t
unfolding some_non_element
three_elements h v t xs =
    any_three _ ∙ ap (λ (b : Bool). not (is_element h v) || b) (sym (any_two (λ i. not (is_element h (get_or t i 0)))))

-- a number is below another or not
not_below : (a b : ℕ) → not (ltb a b) ≡ leb b a
not_below a b = elim (dec_lt a b) [
  | yes less ↦ rw (lt-ltb a b less) (sym (lt-leb b a less))
  | no past ↦ rw (le-ltb a b (omega arith)) (sym (le-leb b a (omega arith)))
]

-- the slots of a product
pub high_slots : (base : Base) (xs : List ℕ)
    → any 3 (λ i. leb base.order (get_or xs i 0)) ≡ some_non_coordinate (product_header base) 3 xs
unfolding some_non_coordinate is_coordinate is_exponent
high_slots base xs = any_agree 3 _ _ (λ i inside. sym (not_below (get_or xs i 0) base.order))

-- ---- 14 by kinds

module _ (base : Base) (line : Line) where
  -- of a commitment
  pub elements_one : line.kind ≡ 1 → not (is_element (product_header base) line.commitment) ≡ bad_elements base line
  unfolding bad_elements
  elements_one one = rw one (sym (or-false _))

  -- of a line that stores none
  pub elements_none : line.kind ≢ 1 → line.kind ≢ 3 → false ≡ bad_elements base line
  unfolding bad_elements
  elements_none other last = rw (ne_eqb _ _ other, ne_eqb _ _ last)

  -- of a product
  pub elements_three : line.kind ≡ 3 → (xs : List ℕ)
      → some_non_element (product_header base) 3 (line.commitment ∷ get_or line.t 0 0 ∷ get_or line.t 1 0 ∷ xs) ≡ bad_elements base line
  unfolding bad_elements
  elements_three three xs = three_elements (product_header base) line.commitment line.t xs ∙ rw three
