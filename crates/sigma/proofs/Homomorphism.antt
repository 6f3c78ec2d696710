-- The image [x] is a homomorphism from n coordinates of the domain to s group elements, in both kinds.
-- Assumes nothing.
use Prim.Native.Nat.{ℕ, ◌+◌, ◌*◌, ◌%◌, ◌^◌, ◌<◌}
use mathlib.Core.Path.{◌≡◌, sym, ap, ap₂, ◌∙◌}
use mathlib.Core.Logic.{◌≢◌}
use mathlib.Core.List.{List}
use native.Mathlib.Nat.{mod-lt}
use native.Mathlib.Omega.{arith}
use lib.IntN.{pos}
use lib.ListN.{get_or}
use lib.Pow.{pow-add}
use Rattle.lists.specs.Each.{Each}
use Rattle.lists.specs.Places.{places}
use Rattle.lists.proofs.Each.{each_from, each_at, each_places}
use Rattle.groups.specs.Group.{Group}
use Rattle.groups.specs.Homomorphism.{Homomorphism as GroupHomomorphism}
use Rattle.groups.specs.Vector.{NumberGroup, vector_group, same_slots, value_of_product}
use Rattle.numbers.specs.Congruence.{Cong}
use Rattle.numbers.specs.Product.{product}
use Rattle.numbers.proofs.Congruence.{◌then◌, cong_of_equal, mod_mul_both, mod_pow}
use Rattle.numbers.proofs.Exponent.{power_pos, power_coprime}
use Rattle.numbers.proofs.Powers.{mul_pow, cong_pow_mod}
use Rattle.numbers.proofs.Product.{product_cong, product_mul}
use Rattle.sigma.specs.Instance.{Table, entry}
use Rattle.sigma.specs.Domain.{Domain, Codomain}
use Rattle.sigma.specs.Element.{Element, Coordinate, combine}
use Rattle.sigma.specs.Image.{row_image, image}
use Rattle.sigma.specs.Valid.{ValidTable}
use Rattle.sigma.proofs.ByKind.{by_kind, combine_exponent, combine_root, row_image_exponent, row_image_root}
use Rattle.sigma.proofs.CoordinateGroup.{coordinate_group}
use Rattle.sigma.proofs.ElementGroup.{element_by_gcd, element_powers, element_group}
use Rattle.sigma.proofs.Valid.{valid_modulus, valid_order, valid_kind, valid_coprime}
use Rattle.sigma.proofs.Values.{length_image, image_at}

-- the first s places of an array, each a group element, as s group elements
abbrev pub elements_from : (table : Table) (t : List ℕ)
    → ((i : ℕ) → i < table.header.rows → Element table.header (get_or t i 0)) → Codomain table
elements_from table t each = (places table.header.rows t, each_places _ _ t each)

module _ {table : Table} (v : ValidTable table) where
  -- the group of one coordinate
  unfoldable pub coordinates_of : NumberGroup (Coordinate table.header)
  coordinates_of = coordinate_group table.header (valid_modulus v) (valid_order v)

  -- the group of one element
  unfoldable pub elements_of : NumberGroup (Element table.header)
  elements_of = element_group table.header (valid_modulus v) (valid_order v)

-- ---- kind 1: the product of the entries' powers

module _ {table : Table} (v : ValidTable table) (e : table.header.kind ≡ 1) (i : ℕ) (h : i < table.header.rows) where
  -- a row of an image is a group element
  exponent_row_in : (x : List ℕ) → Element table.header (row_image table x i)
  exponent_row_in x =
      rw (row_image_exponent table e x i)
      (element_powers table.header (valid_modulus v) (valid_order v) e table.header.columns (entry table i) (λ j. get_or x j 0)
      (λ j b. v.entries e i j h b))

  -- a row of the image of a combination is the product of the rows
  exponent_row_combine : (x y z : List ℕ)
      → ((j : ℕ) → j < table.header.columns → get_or z j 0 ≡ combine table.header (get_or x j 0) (get_or y j 0))
      → row_image table z i ≡ row_image table x i * row_image table y i % table.header.modulus
  exponent_row_combine x y z slots =
      let m = table.header.modulus in
      let q = table.header.order in
      let n = table.header.columns in
      let term : List ℕ → ℕ → ℕ = λ w j. entry table i j ^ get_or w j 0 in
      let each : (j : ℕ) → j < n → Cong m (term z j) (term x j * term y j) = λ j b.
      cong_of_equal m (ap (λ (k : ℕ). entry table i j ^ k) (slots j b ∙ combine_exponent table.header e (get_or x j 0) (get_or y j 0)))
      then cong_pow_mod m q (entry table i j) ((v.entries e i j h b).ordered e) (get_or x j 0 + get_or y j 0)
      then cong_of_equal m (pow-add (entry table i j) (get_or x j 0) (get_or y j 0)) in
      rw (row_image_exponent table e x i, row_image_exponent table e y i, row_image_exponent table e z i, mod_mul_both)
      (product_cong m n _ _ each then cong_of_equal m (product_mul n _ _)).same

-- ---- kind 2: the power of one slot

module _ {table : Table} (v : ValidTable table) (n : table.header.kind ≢ 1) (i : ℕ) (h : i < table.header.rows) where
  -- a row's index is a column's
  pub row_column : i < table.header.columns
  row_column = omega (arith, v.square (valid_kind v n))

  -- a row of an image is a group element
  root_row_in : (x : List ℕ) → Coordinate table.header (get_or x i 0) → Element table.header (row_image table x i)
  root_row_in x slot =
      let coprime = power_coprime table.header.modulus (get_or x i 0) (valid_modulus v) (valid_coprime v _ (slot.element n))
      (pos table.header.order) in
      rw (row_image_root table n x i)
      (element_by_gcd table.header (valid_modulus v) (valid_order v) n _ (mod-lt _ (omega arith)) (rw power_pos at coprime))

  -- a row of the image of a combination is the product of the rows
  root_row_combine : (x y z : List ℕ) → get_or z i 0 ≡ combine table.header (get_or x i 0) (get_or y i 0)
      → row_image table z i ≡ row_image table x i * row_image table y i % table.header.modulus
  root_row_combine x y z slot =
      let m = table.header.modulus in
      let q = table.header.order in
      rw (row_image_root table n x i, row_image_root table n y i, row_image_root table n z i, slot, combine_root table.header n, mod_mul_both)
      (mod_pow m (get_or x i 0 * get_or y i 0) q ∙ ap (λ (k : ℕ). k % m) (mul_pow (get_or x i 0) (get_or y i 0) q))

-- ---- both kinds

module _ {table : Table} (v : ValidTable table) where
  -- the image of n coordinates is s group elements
  pub image_in : (x : List ℕ) → Each (Coordinate table.header) table.header.columns x
      → Each (Element table.header) table.header.rows (image table x)
  image_in x slots = each_from (Element table.header) table.header.rows (image table x) (length_image table x) (λ i h.
      rw (image_at table x i h)
      (by_kind table.header (λ e. exponent_row_in v e i h x)
      (λ n. root_row_in v n i h x (each_at _ _ x slots i (row_column v n i h)))))

  -- a row of the image of a combination is the product of the rows
  pub row_combine : (x y z : List ℕ)
      → ((j : ℕ) → j < table.header.columns → get_or z j 0 ≡ combine table.header (get_or x j 0) (get_or y j 0))
      → (i : ℕ) → i < table.header.rows → row_image table z i ≡ row_image table x i * row_image table y i % table.header.modulus
  row_combine x y z slots i h =
      by_kind table.header (λ e. exponent_row_combine v e i h x y z slots)
      (λ n. root_row_combine v n i h x y z (slots i (row_column v n i h)))

  -- the group of n coordinates
  abbrev pub domain_group : Group (Domain table)
  domain_group = vector_group (coordinates_of v) table.header.columns

  -- the group of s group elements
  abbrev pub codomain_group : Group (Codomain table)
  codomain_group = vector_group (elements_of v) table.header.rows

  -- [x] of n coordinates, as s group elements
  unfoldable pub image_of : Domain table → Codomain table
  image_of x = (image table x.0, image_in x.0 x.1)

  -- row i of it
  pub image_of_at : (x : Domain table) (i : ℕ) → i < table.header.rows
      → get_or (image_of x).0 i 0 ≡ row_image table x.0 i
  unfolding image_of
  image_of_at x i h = image_at table x.0 i h

  -- [x y] = [x] · [y]
  pub image_product : (x y : Domain table)
      → image_of (domain_group.product x y) ≡ codomain_group.product (image_of x) (image_of y)
  unfolding vector_group coordinates_of coordinate_group elements_of element_group
  image_product x y = same_slots (elements_of v) table.header.rows _ _ (λ i h.
      rw (value_of_product (elements_of v) table.header.rows (image_of x) (image_of y) i h, image_of_at (domain_group.product x y) i h)
      (row_combine x.0 y.0 _ (value_of_product (coordinates_of v) table.header.columns x y) i h
      ∙ sym (ap₂ (λ (a b : ℕ). a * b % table.header.modulus) (image_of_at x i h) (image_of_at y i h))))

  -- the image as a homomorphism
  unfoldable pub homomorphism : GroupHomomorphism domain_group codomain_group
  homomorphism = record { map = image_of; preserves = image_product }
