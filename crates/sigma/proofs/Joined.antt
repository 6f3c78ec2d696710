-- Values over one table joined two by two: the image of joined slots is the product of the images, the response of joined nonces and
-- witnesses is the joined response, and where one of two rounds with one challenge holds in a row, their product holds there exactly
-- where the other does.
-- Assumes nothing.
use Prim.Native.Nat.{ℕ, ◌+◌, ◌*◌, ◌%◌, ◌^◌, ◌<◌}
use mathlib.Core.Path.{◌≡◌, sym, ap, ap₂, ◌∙◌}
use mathlib.Core.Logic.{◌↔◌}
use mathlib.Core.Bool.{cond}
use mathlib.Core.List.{List}
use native.Mathlib.Nat.{add_comm, mul_comm, mul-mul-mul_comm, mod-eq_of_lt}
use native.Mathlib.Omega.{arith}
use lib.ListN.{get_or, length}
use Rattle.types.specs.declared.Header.{Header}
use Rattle.lists.specs.Places.{places}
use Rattle.lists.proofs.Each.{each_at, each_places}
use Rattle.lists.proofs.Places.{get_d_places, get_d_tabulate, length_tabulate, tabulate_agree}
use Rattle.numbers.specs.Congruence.{Cong}
use Rattle.numbers.specs.Inverse.{Inverses}
use Rattle.numbers.proofs.Congruence.{
  ◌then◌,
  cong_add,
  cong_mod,
  cong_mul,
  cong_mul_cancel,
  cong_of_equal,
  cong_pow,
  cong_refl,
  cong_sym,
}
use Rattle.numbers.proofs.Powers.{mul_pow}
use Rattle.sigma.specs.Element.{Element, combine}
use Rattle.sigma.specs.Image.{image, row_image}
use Rattle.sigma.specs.Instance.{Instance, Table, is_exponent, statement_at, table_of}
use Rattle.sigma.specs.Joined.{join_slots, multiply_rows, with_statement}
use Rattle.sigma.specs.Meaning.{Coordinates, Elements, RowHolds}
use Rattle.sigma.specs.Reads.{Agree, round_of}
use Rattle.sigma.specs.Round.{response, response_coordinate}
use Rattle.sigma.specs.Valid.{Valid, ValidTable}
use Rattle.sigma.proofs.ByKind.{
  by_kind,
  combine_exponent,
  combine_root,
  response_coordinate_exponent,
  response_coordinate_root,
}
use Rattle.sigma.proofs.CoordinateGroup.{combine_in}
use Rattle.sigma.proofs.ElementGroup.{element_inverts, element_product}
use Rattle.sigma.proofs.Homomorphism.{image_in, row_combine}
use Rattle.sigma.proofs.Unread.{row_image_agree}
use Rattle.sigma.proofs.Valid.{valid_modulus, valid_order}
use Rattle.sigma.proofs.Values.{image_at, response_at}

-- ---- places

module _ (h : Header) (x y : List ℕ) where
  -- slot j of joined slots
  pub join_at : (j : ℕ) → j < h.columns → get_or (join_slots h x y) j 0 ≡ combine h (get_or x j 0) (get_or y j 0)
  unfolding join_slots
  join_at j b = get_d_tabulate _ _ j 0 b

  -- there are n of them
  pub length_join : length (join_slots h x y) ≡ h.columns
  unfolding join_slots
  length_join = length_tabulate _ _

  -- row i of multiplied rows
  pub multiply_at : (i : ℕ) → i < h.rows → get_or (multiply_rows h x y) i 0 ≡ get_or x i 0 * get_or y i 0 % h.modulus
  unfolding multiply_rows
  multiply_at i b = get_d_tabulate _ _ i 0 b

  -- the order of the two does not matter
  pub join_swap : join_slots h x y ≡ join_slots h y x
  unfolding join_slots combine
  join_swap = tabulate_agree h.columns _ _ (λ j b.
      ap₂ (λ (s p : ℕ). cond (is_exponent h) (s % h.order) (p % h.modulus)) (add_comm (get_or x j 0) (get_or y j 0))
      (mul_comm (get_or x j 0) (get_or y j 0)))

  pub multiply_swap : multiply_rows h x y ≡ multiply_rows h y x
  unfolding multiply_rows
  multiply_swap = tabulate_agree h.rows _ _ (λ i b. ap (λ (p : ℕ). p % h.modulus) (mul_comm (get_or x i 0) (get_or y i 0)))

-- ---- slots

module _ (h : Header) where
  -- joined slots read n places of each
  pub join_agree : (x y y' : List ℕ) → Agree h.columns y y' → join_slots h x y ≡ join_slots h x y'
  unfolding join_slots
  join_agree x y y' same = tabulate_agree h.columns _ _ (λ j b. ap (combine h (get_or x j 0)) (same j b))

  pub joins_agree : (x x' y y' : List ℕ) → Agree h.columns x x' → Agree h.columns y y' → join_slots h x y ≡ join_slots h x' y'
  joins_agree x x' y y' same same' = join_agree x y y' same' ∙ join_swap h x y' ∙ join_agree y' x x' same ∙ join_swap h y' x'

  -- a slot of the response of joined nonces and witnesses
  slot_joined : (k k' c x x' : ℕ)
      → response_coordinate h (combine h k k') c (combine h x x') ≡ combine h (response_coordinate h k c x) (response_coordinate h k' c x')
  slot_joined k k' c x x' =
      by_kind h
      (λ e.
      let q = h.order in
      let sum : k + k' + c * (x + x') ≡ k + c * x + (k' + c * x') = omega arith in
      rw (
        combine_exponent h e k k',
        combine_exponent h e x x',
        response_coordinate_exponent h e k c x,
        response_coordinate_exponent h e k' c x',
        response_coordinate_exponent h e _ c _,
        combine_exponent h e _ _,
      )
      (cong_add (cong_mod q (k + k')) (cong_mul (cong_refl q c) (cong_mod q (x + x'))) then cong_of_equal q sum
      then cong_sym (cong_add (cong_mod q (k + c * x)) (cong_mod q (k' + c * x')))).same)
      (λ n.
      let m = h.modulus in
      let product : k * k' * (x * x') ^ c ≡ k * x ^ c * (k' * x' ^ c) =
      ap (λ (p : ℕ). k * k' * p) (mul_pow x x' c) ∙ mul-mul-mul_comm k k' (x ^ c) (x' ^ c) in
      rw (
        combine_root h n k k',
        combine_root h n x x',
        response_coordinate_root h n k c x,
        response_coordinate_root h n k' c x',
        response_coordinate_root h n _ c _,
        combine_root h n _ _,
      )
      (cong_mul (cong_mod m (k * k')) (cong_pow (cong_mod m (x * x')) c) then cong_of_equal m product
      then cong_sym (cong_mul (cong_mod m (k * x ^ c)) (cong_mod m (k' * x' ^ c)))).same)

  -- the response of joined nonces and witnesses is the joined response
  pub response_joined : (k k' : List ℕ) (c : ℕ) (x x' : List ℕ)
      → response h (join_slots h k k') c (join_slots h x x') ≡ join_slots h (response h k c x) (response h k' c x')
  unfolding response join_slots
  response_joined k k' c x x' = tabulate_agree h.columns _ _ (λ j b.
      ap₂ (λ (a y : ℕ). response_coordinate h a c y) (join_at h k k' j b) (join_at h x x' j b)
      ∙ slot_joined (get_or k j 0) (get_or k' j 0) c (get_or x j 0) (get_or x' j 0)
      ∙ ap₂ (λ (a y : ℕ). combine h a y) (sym (response_at h k c x j b)) (sym (response_at h k' c x' j b)))

-- ---- images

module _ {table : Table} (v : ValidTable table) where
  -- a row of the image of joined slots is the product of the rows
  pub row_joined : (x y : List ℕ) (i : ℕ) → i < table.header.rows
      → row_image table (join_slots table.header x y) i ≡ row_image table x i * row_image table y i % table.header.modulus
  row_joined x y = row_combine v x y _ (join_at table.header x y)

  -- the image of joined slots is the product of the images
  pub image_joined : (x y : List ℕ)
      → image table (join_slots table.header x y) ≡ multiply_rows table.header (image table x) (image table y)
  unfolding image multiply_rows
  image_joined x y = tabulate_agree table.header.rows _ _ (λ i b.
      row_joined x y i b
      ∙ ap₂ (λ (a d : ℕ). a * d % table.header.modulus) (sym (image_at table x i b)) (sym (image_at table y i b)))

module _ {inst : Instance} (v : Valid inst) where
  -- joined slots are coordinates
  pub join_in : (x y : List ℕ) → Coordinates inst x → Coordinates inst y → Coordinates inst (join_slots inst.header x y)
  join_in x y a d j b =
      rw (join_at inst.header x y j b)
      (combine_in inst.header (valid_modulus v.table) (valid_order v.table) _ _ (a j b) (d j b))

  -- multiplied rows are group elements
  pub multiply_in : (t u : List ℕ) → Elements inst t → Elements inst u → Elements inst (multiply_rows inst.header t u)
  multiply_in t u a d i b =
      rw (multiply_at inst.header t u i b)
      (element_product inst.header (valid_modulus v.table) (valid_order v.table) _ _ (a i b) (d i b))

  -- with group elements as its statement an instance is Valid
  pub with_statement_valid : (z : List ℕ) → Elements inst z → Valid (with_statement inst z)
  unfolding statement_at
  with_statement_valid z elements = record { table = v.table; statement = elements }

  -- a row of the image of coordinates is a group element
  pub row_in : (x : List ℕ) → Coordinates inst x → (i : ℕ) → i < inst.header.rows
      → Element inst.header (row_image (table_of inst) x i)
  row_in x slots i b =
      let n = inst.header.columns in
      let read = image_in v.table (places n x) (each_places _ n x slots) in
      rw (sym (row_image_agree v.table (places n x) x (get_d_places n x) i b), sym (image_at (table_of inst) (places n x) i b))
      (each_at _ _ _ read i b)

-- ---- rounds

-- where the first factors agree modulo m, the products agree exactly where the second factors do
factors_agree : (m a w a' b b' : ℕ) → Inverses m a w → a' < m → a ≡ b % m → (a * a' % m ≡ b * b' % m) ↔ (a' ≡ b' % m)
factors_agree m a w a' b b' inverts below same =
    let first : Cong m a b = cong_of_equal m same then cong_mod m b in (
      λ e.
          let products : Cong m (a * a') (a * b') = record { same = e } then cong_mul (cong_sym first) (cong_refl m b') in
          sym (mod-eq_of_lt below) ∙ (cong_mul_cancel inverts a' b' products).same,
      λ e. (cong_mul first (cong_of_equal m e then cong_mod m b')).same,
    )

module _ {inst : Instance} (v : Valid inst) (z z' t t' r r' : List ℕ) (c : ℕ) (slots : Coordinates inst r)
    (slots' : Coordinates inst r') (i : ℕ) (inside : i < inst.header.rows) where
  -- the right side of the product's row
  expected_joined : get_or (multiply_rows inst.header t t') i 0 * get_or (multiply_rows inst.header z z') i 0 ^ c % inst.header.modulus
      ≡ get_or t i 0 * get_or z i 0 ^ c * (get_or t' i 0 * get_or z' i 0 ^ c) % inst.header.modulus
  expected_joined =
      let m = inst.header.modulus in
      let a = get_or t i 0 in
      let a' = get_or t' i 0 in
      let u = get_or z i 0 in
      let u' = get_or z' i 0 in
      rw (multiply_at inst.header t t' i inside, multiply_at inst.header z z' i inside)
      (cong_mul (cong_mod m (a * a')) (cong_pow (cong_mod m (u * u')) c)
      then cong_of_equal m (ap (λ (p : ℕ). a * a' * p) (mul_pow u u' c) ∙ mul-mul-mul_comm a a' (u ^ c) (u' ^ c))).same

  -- where the first of two rounds holds in a row, their product holds there exactly where the second does
  pub second_decides : RowHolds (with_statement inst z) (round_of t c r) i
      → RowHolds (with_statement inst (multiply_rows inst.header z z'))
      (round_of (multiply_rows inst.header t t') c (join_slots inst.header r r')) i
      ↔ RowHolds (with_statement inst z') (round_of t' c r') i
  unfolding statement_at
  second_decides holds =
      let inverts =
      element_inverts inst.header (valid_modulus v.table) (valid_order v.table) _ (row_in v r slots i inside) in
      let decide = factors_agree inst.header.modulus _ _ _ _ _ inverts (row_in v r' slots' i inside).below holds in
      let left = row_joined v.table r r' i inside in
      (λ e. decide.0 (sym left ∙ e ∙ expected_joined), λ e. left ∙ decide.1 e ∙ sym expected_joined)

module _ {inst : Instance} (v : Valid inst) (z z' t t' r r' : List ℕ) (c : ℕ) (slots : Coordinates inst r)
    (slots' : Coordinates inst r') (i : ℕ) (inside : i < inst.header.rows) where
  -- and where the second holds, exactly where the first does
  pub first_decides : RowHolds (with_statement inst z') (round_of t' c r') i
      → RowHolds (with_statement inst (multiply_rows inst.header z z'))
      (round_of (multiply_rows inst.header t t') c (join_slots inst.header r r')) i
      ↔ RowHolds (with_statement inst z) (round_of t c r) i
  first_decides holds =
      let h = inst.header in
      rw (multiply_swap h z z', multiply_swap h t t', join_swap h r r')
      (second_decides v z' z t' t r' r c slots' slots i inside holds)
