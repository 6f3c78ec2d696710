-- Laws of a commutative group that follow from its axioms.
-- Assumes nothing.
use mathlib.Core.Path.{◌≡◌, sym, ap, ◌∙◌}
use Rattle.groups.specs.Group.{Group, group_quotient}

module _ {A : Type 0} (G : Group A) where
  infixl 70 ◌·◌
  open G use {product as ◌·◌, unit, inverse}

  -- the unit stands on the right too
  pub unit_right : (x : A) → x · unit ≡ x
  unit_right x = G.commutative x unit ∙ G.unit_left x

  -- the inverse stands on the right too
  pub inverse_right : (x : A) → x · inverse x ≡ unit
  inverse_right x = G.commutative x (inverse x) ∙ G.inverse_left x

  -- dividing after multiplying changes nothing
  pub multiply_divide : (x y : A) → x · y · inverse y ≡ x
  multiply_divide x y = rw (G.associative x y (inverse y), inverse_right y) (unit_right x)

  -- multiplying after dividing changes nothing
  pub divide_multiply : (x y : A) → x · inverse y · y ≡ x
  divide_multiply x y = rw (G.associative x (inverse y) y, G.inverse_left y) (unit_right x)

  -- a factor on the right can be cancelled
  pub cancel_right : (x y z : A) → x · z ≡ y · z → x ≡ y
  cancel_right x y z p = sym (multiply_divide x z) ∙ ap (λ (v : A). v · inverse z) p ∙ multiply_divide y z

  -- the middle factors of two products change places
  pub interchange : (w x y z : A) → w · x · (y · z) ≡ w · y · (x · z)
  interchange w x y z =
      cc (G.associative w x (y · z), G.associative x y z, G.commutative x y, G.associative y x z, G.associative w y (x · z))

  -- whatever gives the unit with x is the inverse of x
  pub inverse_unique : (x y : A) → y · x ≡ unit → y ≡ inverse x
  inverse_unique x y p = cancel_right y (inverse x) x (p ∙ sym (G.inverse_left x))

  -- the inverse of a product is the product of the inverses
  pub inverse_of_product : (x y : A) → inverse (x · y) ≡ inverse x · inverse y
  inverse_of_product x y = sym (inverse_unique (x · y) (inverse x · inverse y)
      (interchange (inverse x) (inverse y) x y ∙ cc (G.inverse_left x, G.inverse_left y, G.unit_left unit)))

  -- the inverse of an inverse
  pub inverse_of_inverse : (x : A) → inverse (inverse x) ≡ x
  inverse_of_inverse x = sym (inverse_unique (inverse x) x (inverse_right x))

  -- a quotient turned round is its inverse
  pub inverse_of_quotient : (x y : A) → inverse (group_quotient G x y) ≡ group_quotient G y x
  unfolding group_quotient
  inverse_of_quotient x y =
      cc (inverse_of_product x (inverse y), inverse_of_inverse y, G.commutative (inverse x) y)

  -- a common factor cancels out of a quotient
  pub quotient_cancel : (w x y : A) → group_quotient G (w · x) (w · y) ≡ group_quotient G x y
  unfolding group_quotient
  quotient_cancel w x y =
      cc (inverse_of_product w y, interchange w x (inverse w) (inverse y), inverse_right w, G.unit_left (x · inverse y))
