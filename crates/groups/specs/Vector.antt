-- Groups of numbers: a group given by operations on the numbers that satisfy P, and its n-fold product, slot by slot.
-- Assumes nothing.
use Rattle.std.specs.Prelude.{◌≡◌, ℕ, ◌<◌, ℤ, length, get_or, replicate}
use Rattle.std.proofs.Common.{◌∙◌, arith}
use mathlib.Core.HLevel.{Σ_set, Σ_prop_path, prop→set, hedberg}
use mathlib.Core.List
use mathlib.Core.List.{List, map, zip_with}
use Rattle.std.proofs.Math.Decide.{ℕ_discrete}
use Rattle.std.proofs.lemmas.List.{length-map, length-replicate}
use Rattle.std.proofs.Math.ListN.{get_or-replicate}
use Rattle.groups.specs.Group.{Group, power_with}
use Rattle.lists.specs.Each.{Each}
use Rattle.lists.proofs.Each.{each_length, each_at, each_from, each_proposition, same_values}
use Rattle.lists.proofs.Each.{length_zip_with, value_zip_with, value_map}

-- n numbers that satisfy P
abbrev pub Vector : (ℕ → Type 0) → ℕ → Type 0
Vector P n = (xs : List ℕ) × Each P n xs

-- a commutative group on the numbers that satisfy P, by operations on all numbers
pub record NumberGroup (P : ℕ → Type 0) : Type 0 where
  pub proposition : (v : ℕ) → IsProp (P v)
  pub product : ℕ → ℕ → ℕ
  pub unit : ℕ
  pub inverse : ℕ → ℕ
  pub product_in : (v w : ℕ) → P v → P w → P (product v w)
  pub unit_in : P unit
  pub inverse_in : (v : ℕ) → P v → P (inverse v)
  pub associative : (u v w : ℕ) → P u → P v → P w → product (product u v) w ≡ product u (product v w)
  pub commutative : (v w : ℕ) → P v → P w → product v w ≡ product w v
  pub unit_left : (v : ℕ) → P v → product unit v ≡ v
  pub inverse_left : (v : ℕ) → P v → product (inverse v) v ≡ unit

-- v^k by the operations on numbers
unfoldable pub number_power : {P : ℕ → Type 0} → NumberGroup P → ℕ → ℤ → ℕ
number_power N = power_with N.product N.unit N.inverse

-- the numbers form a set
pub numbers_set : IsSet ℕ
numbers_set = hedberg ℕ_discrete

module _ {P : ℕ → Type 0} (N : NumberGroup P) (n : ℕ) where
  -- each value of a vector satisfies P
  pub value_in : (x : Vector P n) (j : ℕ) → j < n → P (get_or x.0 j 0)
  value_in x j h = each_at P n x.0 x.1 j h

  -- two vectors joined by the product, slot by slot, are a vector
  pub vector_product_in : (x y : Vector P n) → Each P n (zip_with N.product x.0 y.0)
  vector_product_in x y =
      let left : length x.0 ≡ n = each_length P n x.0 x.1 in
      let right : length y.0 ≡ n = each_length P n y.0 y.1 in
      each_from P n _ (length_zip_with N.product x.0 y.0 (omega arith) ∙ left) (λ (j : ℕ) (h : j < n).
      rw (value_zip_with N.product x.0 y.0 j (omega arith) (omega arith))
      (N.product_in _ _ (value_in x j h) (value_in y j h)))

  -- n units are a vector
  pub vector_unit_in : Each P n (replicate n N.unit)
  vector_unit_in = each_from P n _ (length-replicate n N.unit) (λ (j : ℕ) (h : j < n). rw (get_or-replicate n j N.unit 0) N.unit_in)

  -- a vector mapped by the inverse is a vector
  pub vector_inverse_in : (x : Vector P n) → Each P n (map N.inverse x.0)
  vector_inverse_in x =
      let same : length x.0 ≡ n = each_length P n x.0 x.1 in
      each_from P n _ (length-map x.0 N.inverse ∙ same) (λ (j : ℕ) (h : j < n).
      rw (value_map N.inverse x.0 j (omega arith)) (N.inverse_in _ (value_in x j h)))

  -- the product of two vectors, slot by slot
  unfoldable pub vector_product : Vector P n → Vector P n → Vector P n
  vector_product x y = (zip_with N.product x.0 y.0, vector_product_in x y)

  -- the vector of n units
  unfoldable pub vector_unit : Vector P n
  vector_unit = (replicate n N.unit, vector_unit_in)

  -- the inverse of a vector, slot by slot
  unfoldable pub vector_inverse : Vector P n → Vector P n
  vector_inverse x = (map N.inverse x.0, vector_inverse_in x)

  -- two vectors are equal when their lists are
  pub same_vector : (x y : Vector P n) → x.0 ≡ y.0 → x ≡ y
  same_vector x y p = Σ_prop_path (each_proposition P N.proposition n) p

  -- two vectors are equal when their values below n agree
  pub same_slots : (x y : Vector P n) → ((j : ℕ) → j < n → get_or x.0 j 0 ≡ get_or y.0 j 0) → x ≡ y
  same_slots x y agree = same_vector x y (same_values P n x.0 y.0 x.1 y.1 agree)

  -- the j-th value of a product is the product of the j-th values
  pub value_of_product : (x y : Vector P n) (j : ℕ) → j < n
      → get_or (vector_product x y).0 j 0 ≡ N.product (get_or x.0 j 0) (get_or y.0 j 0)
  unfolding vector_product
  value_of_product x y j h = value_zip_with N.product x.0 y.0 j
      (omega (arith, each_length P n x.0 x.1)) (omega (arith, each_length P n y.0 y.1))

  -- each value of the unit is the unit
  pub value_of_unit : (j : ℕ) → j < n → get_or vector_unit.0 j 0 ≡ N.unit
  unfolding vector_unit
  value_of_unit j h = get_or-replicate n j N.unit 0 h

  -- the j-th value of an inverse is the inverse of the j-th value
  pub value_of_inverse : (x : Vector P n) (j : ℕ) → j < n → get_or (vector_inverse x).0 j 0 ≡ N.inverse (get_or x.0 j 0)
  unfolding vector_inverse
  value_of_inverse x j h = value_map N.inverse x.0 j (omega (arith, each_length P n x.0 x.1))

  -- the product of vectors is associative
  pub vector_associative : (x y z : Vector P n) → vector_product (vector_product x y) z ≡ vector_product x (vector_product y z)
  vector_associative x y z = same_slots _ _ (λ j h.
      rw (value_of_product _ z j h, value_of_product x y j h, value_of_product x _ j h, value_of_product y z j h)
      (N.associative _ _ _ (value_in x j h) (value_in y j h) (value_in z j h)))

  -- the product of vectors is commutative
  pub vector_commutative : (x y : Vector P n) → vector_product x y ≡ vector_product y x
  vector_commutative x y = same_slots _ _ (λ j h.
      rw (value_of_product x y j h, value_of_product y x j h) (N.commutative _ _ (value_in x j h) (value_in y j h)))

  -- the unit vector is the product's unit
  pub vector_unit_left : (x : Vector P n) → vector_product vector_unit x ≡ x
  vector_unit_left x = same_slots _ _ (λ j h. rw (value_of_product vector_unit x j h, value_of_unit j h) (N.unit_left _ (value_in x j h)))

  -- a vector's inverse is its inverse under the product
  pub vector_inverse_left : (x : Vector P n) → vector_product (vector_inverse x) x ≡ vector_unit
  vector_inverse_left x = same_slots _ _ (λ j h.
      rw (value_of_product (vector_inverse x) x j h, value_of_inverse x j h, value_of_unit j h) (N.inverse_left _ (value_in x j h)))

  -- the n-fold product of the group of numbers
  unfoldable pub vector_group : Group (Vector P n)
  vector_group = record {
    is_set = Σ_set (List.is_set numbers_set) (λ xs. prop→set (each_proposition P N.proposition n xs));
    product = vector_product;
    unit = vector_unit;
    inverse = vector_inverse;
    associative = vector_associative;
    commutative = vector_commutative;
    unit_left = vector_unit_left;
    inverse_left = vector_inverse_left;
  }
