-- A team's parts multiplied and joined, on values: one player more is one row more by the operation on two, so that what holds of two
-- rounds over one table holds of a team's.
-- Assumes nothing.
use Prim.Native.Nat.{ℕ, zero, suc, ◌*◌, ◌%◌, ◌^◌, ◌<◌}
use mathlib.Core.Path.{◌≡◌, sym, ap, ap₂, ◌∙◌, subst}
use mathlib.Core.Logic.{◌↔◌, ◌≢◌}
use mathlib.Core.List.{List}
use native.Mathlib.Nat.{mod-eq_of_lt, mul-zero, pow-zero, zero-mod}
use native.Mathlib.Decide.{ℕ_discrete}
use native.Mathlib.Omega.{arith}
use lib.ListN.{get_or, length}
use lib.Seq.{ext_get_or}
use Rattle.types.specs.declared.Header.{Header}
use Rattle.lists.proofs.Places.{get_d_tabulate, length_tabulate, tabulate_agree}
use Rattle.numbers.specs.Product.{product, sum}
use Rattle.numbers.proofs.Congruence.{cong_add, cong_mod, cong_refl, cong_sym, mod_mul_left}
use Rattle.numbers.proofs.Powers.{one_pow}
use Rattle.numbers.proofs.Product.{product_agree, product_one, product_suc, product_zero, sum_suc, sum_zero}
use Rattle.sigma.specs.Element.{combine}
use Rattle.sigma.specs.Image.{row_image}
use Rattle.sigma.specs.Instance.{Instance, Table, entry, statement_at}
use Rattle.sigma.specs.Joined.{join_slots, multiply_rows, with_statement}
use Rattle.sigma.specs.Meaning.{Coordinates, Elements, RowHolds}
use Rattle.sigma.specs.Reads.{Agree, round_of}
use Rattle.sigma.specs.Round.{response, response_coordinate}
use Rattle.sigma.specs.Valid.{Valid, ValidTable}
use Rattle.sigma.proofs.ByKind.{
  by_kind,
  combine_exponent,
  combine_root,
  exponent_kind,
  response_coordinate_exponent,
  response_coordinate_root,
  root_kind,
  row_image_exponent,
  row_image_root,
}
use Rattle.sigma.proofs.CoordinateGroup.{coordinate_exponent, coordinate_root}
use Rattle.sigma.proofs.ElementGroup.{element_one}
use Rattle.sigma.proofs.Homomorphism.{row_column}
use Rattle.sigma.proofs.Joined.{
  first_decides,
  join_agree,
  join_at,
  join_in,
  length_join,
  multiply_in,
  response_joined,
  row_joined,
  second_decides,
}
use Rattle.sigma.proofs.Valid.{valid_modulus, valid_order}
use Rattle.sigma.proofs.Values.{length_response, response_at}
use Rattle.products.specs.Team.{join_all, multiply_all, part}

module _ (h : Header) (parts : List (List ℕ)) where
  -- ---- places

  -- row i of a team's parts multiplied
  pub multiply_all_at : (k i : ℕ) → i < h.rows
      → get_or (multiply_all h k parts) i 0 ≡ product k (λ p. get_or (part parts p) i 0) % h.modulus
  unfolding multiply_all
  multiply_all_at k i b = get_d_tabulate _ _ i 0 b

  -- slot j of a team's parts joined, in kind 1
  pub join_all_exponent : h.kind ≡ 1 → (k j : ℕ) → j < h.columns
      → get_or (join_all h k parts) j 0 ≡ sum k (λ p. get_or (part parts p) j 0) % h.order
  unfolding join_all
  join_all_exponent e k j b = get_d_tabulate _ _ j 0 b ∙ rw (exponent_kind h e)

  -- and in kind 2
  pub join_all_root : h.kind ≢ 1 → (k j : ℕ) → j < h.columns
      → get_or (join_all h k parts) j 0 ≡ product k (λ p. get_or (part parts p) j 0) % h.modulus
  unfolding join_all
  join_all_root n k j b = get_d_tabulate _ _ j 0 b ∙ rw (root_kind h n)

  -- how many there are
  pub length_multiply_all : (k : ℕ) → length (multiply_all h k parts) ≡ h.rows
  unfolding multiply_all
  length_multiply_all k = length_tabulate _ _

  pub length_join_all : (k : ℕ) → length (join_all h k parts) ≡ h.columns
  unfolding join_all
  length_join_all k = length_tabulate _ _

  -- ---- one player more

  -- the product with one row more
  pub multiply_all_suc : (k : ℕ) → multiply_all h (suc k) parts ≡ multiply_rows h (multiply_all h k parts) (part parts k)
  unfolding multiply_rows multiply_all
  multiply_all_suc k = tabulate_agree h.rows _ _ (λ i b.
      let f : ℕ → ℕ = λ p. get_or (part parts p) i 0 in
      ap (λ (n : ℕ). n % h.modulus) (product_suc k f) ∙ sym (mod_mul_left h.modulus (product k f) (f k))
      ∙ ap (λ (n : ℕ). n * f k % h.modulus) (sym (multiply_all_at k i b)))

  -- a slot of the joined parts with one row more
  pub slot_suc : (k j : ℕ) → j < h.columns
      → get_or (join_all h (suc k) parts) j 0 ≡ combine h (get_or (join_all h k parts) j 0) (get_or (part parts k) j 0)
  slot_suc k j b =
      let f : ℕ → ℕ = λ p. get_or (part parts p) j 0 in
      by_kind h
      (λ e.
      let q = h.order in
      rw (join_all_exponent e (suc k) j b, join_all_exponent e k j b, combine_exponent h e (sum k f % q) (f k), sum_suc k f)
      (cong_add (cong_sym (cong_mod q (sum k f))) (cong_refl q (f k))).same)
      (λ n.
      let m = h.modulus in
      rw (join_all_root n (suc k) j b, join_all_root n k j b, combine_root h n (product k f % m) (f k), product_suc k f)
      (sym (mod_mul_left m (product k f) (f k))))

  -- the joined parts with one row more
  pub join_all_suc : (k : ℕ) → join_all h (suc k) parts ≡ join_slots h (join_all h k parts) (part parts k)
  join_all_suc k = ext_get_or 0 _ _ (length_join_all (suc k) ∙ sym (length_join h _ _)) (λ j inside.
      let b : j < h.columns = omega (arith, length_join_all (suc k)) in
      slot_suc k j b ∙ sym (join_at h (join_all h k parts) (part parts k) j b))

  -- ---- no player

  -- the product of no parts is 1
  none_multiplied : 1 < h.modulus → (i : ℕ) → i < h.rows → get_or (multiply_all h 0 parts) i 0 ≡ 1
  none_multiplied big i b = multiply_all_at 0 i b ∙ ap (λ (n : ℕ). n % h.modulus) (product_zero _) ∙ mod-eq_of_lt big

  -- no parts joined are 0 in kind 1
  none_joined_exponent : h.kind ≡ 1 → (j : ℕ) → j < h.columns → get_or (join_all h 0 parts) j 0 ≡ 0
  none_joined_exponent e j b = join_all_exponent e 0 j b ∙ ap (λ (n : ℕ). n % h.order) (sum_zero _) ∙ zero-mod h.order

  -- and 1 in kind 2
  none_joined_root : 1 < h.modulus → h.kind ≢ 1 → (j : ℕ) → j < h.columns → get_or (join_all h 0 parts) j 0 ≡ 1
  none_joined_root big n j b = join_all_root n 0 j b ∙ ap (λ (k : ℕ). k % h.modulus) (product_zero _) ∙ mod-eq_of_lt big

-- ---- images and responses

module _ {table : Table} (v : ValidTable table) where
  -- a row of the image of no parts joined is 1
  none_row : (parts : List (List ℕ)) (i : ℕ) → i < table.header.rows → row_image table (join_all table.header 0 parts) i ≡ 1
  none_row parts i b =
      let h = table.header in
      let m = h.modulus in
      by_kind h
      (λ e.
      let ones =
      product_agree h.columns (λ j. entry table i j ^ get_or (join_all h 0 parts) j 0) (λ j. 1)
      (λ j d. ap (λ (n : ℕ). entry table i j ^ n) (none_joined_exponent h parts e j d) ∙ pow-zero (entry table i j)) in
      row_image_exponent table e _ i ∙ ap (λ (n : ℕ). n % m) (ones ∙ product_one h.columns) ∙ mod-eq_of_lt (valid_modulus v))
      (λ n.
      row_image_root table n _ i
      ∙ ap (λ (k : ℕ). k ^ h.order % m) (none_joined_root h parts (valid_modulus v) n i (row_column v n i b))
      ∙ ap (λ (k : ℕ). k % m) (one_pow h.order) ∙ mod-eq_of_lt (valid_modulus v))

  -- a row of the image of a team's parts joined is the product of their images' parts
  pub row_all : (parts : List (List ℕ)) (i : ℕ) → i < table.header.rows → (k : ℕ)
      → row_image table (join_all table.header k parts) i ≡ product k (λ p. row_image table (part parts p) i) % table.header.modulus
  row_all parts i b zero =
      none_row parts i b ∙ sym (ap (λ (n : ℕ). n % table.header.modulus) (product_zero _) ∙ mod-eq_of_lt (valid_modulus v))
  row_all parts i b (suc k) =
      let h = table.header in
      let f : ℕ → ℕ = λ p. row_image table (part parts p) i in
      ap (λ (x : List ℕ). row_image table x i) (join_all_suc h parts k) ∙ row_joined v (join_all h k parts) (part parts k) i b
      ∙ ap (λ (n : ℕ). n * f k % h.modulus) (row_all parts i b k) ∙ mod_mul_left h.modulus (product k f) (f k)
      ∙ ap (λ (n : ℕ). n % h.modulus) (sym (product_suc k f))

module _ (h : Header) (big : 1 < h.modulus) (ks xs rs : List (List ℕ)) (c : ℕ) where
  -- a slot of the response of no player
  none_response : (j : ℕ) → j < h.columns
      → response_coordinate h (get_or (join_all h 0 ks) j 0) c (get_or (join_all h 0 xs) j 0) ≡ get_or (join_all h 0 rs) j 0
  none_response j b =
      by_kind h
      (λ e.
      rw (
        none_joined_exponent h ks e j b,
        none_joined_exponent h xs e j b,
        none_joined_exponent h rs e j b,
        response_coordinate_exponent h e 0 c 0,
        mul-zero c,
      )
      (zero-mod h.order))
      (λ n.
      rw (
        none_joined_root h ks big n j b,
        none_joined_root h xs big n j b,
        none_joined_root h rs big n j b,
        response_coordinate_root h n 1 c 1,
        one_pow c,
      )
      (mod-eq_of_lt big))

  -- the response of a team's joined nonces and witnesses is the players' responses joined
  pub response_all : (k : ℕ)
      → ((p : ℕ) → p < k → Agree h.columns (part rs p) (response h (part ks p) c (part xs p)))
      → response h (join_all h k ks) c (join_all h k xs) ≡ join_all h k rs
  response_all zero same = ext_get_or 0 _ _ (length_response h _ c _ ∙ sym (length_join_all h rs 0)) (λ j inside.
      let b : j < h.columns = omega (arith, length_response h (join_all h 0 ks) c (join_all h 0 xs)) in
      response_at h _ c _ j b ∙ none_response j b)
  response_all (suc k) same =
      ap₂ (λ (a x : List ℕ). response h a c x) (join_all_suc h ks k) (join_all_suc h xs k)
      ∙ response_joined h (join_all h k ks) (part ks k) c (join_all h k xs) (part xs k)
      ∙ ap (λ (r : List ℕ). join_slots h r (response h (part ks k) c (part xs k))) (response_all k (λ p b. same p (omega arith)))
      ∙ join_agree h (join_all h k rs) _ (part rs k) (λ j b. sym (same k (omega arith) j b)) ∙ sym (join_all_suc h rs k)

-- ---- rounds

module _ {inst : Instance} (v : Valid inst) where
  -- the team's product is s group elements
  pub multiply_all_in : (parts : List (List ℕ)) (k : ℕ) → ((p : ℕ) → p < k → Elements inst (part parts p))
      → Elements inst (multiply_all inst.header k parts)
  multiply_all_in parts zero each = λ i b.
      rw (none_multiplied inst.header parts (valid_modulus v.table) i b) (element_one inst.header (valid_modulus v.table))
  multiply_all_in parts (suc k) each =
      rw (multiply_all_suc inst.header parts k)
      (multiply_in v _ _ (multiply_all_in parts k (λ p b. each p (omega arith))) (each k (omega arith)))

  -- no parts joined are n slots
  none_in : (parts : List (List ℕ)) → Coordinates inst (join_all inst.header 0 parts)
  none_in parts j b =
      let h = inst.header in
      let big = valid_modulus v.table in
      by_kind h (λ e. rw (none_joined_exponent h parts e j b) (coordinate_exponent h e 0 (valid_order v.table)))
      (λ n. rw (none_joined_root h parts big n j b) (coordinate_root h n 1 (element_one h big)))

  -- the team's joined parts are n slots
  pub join_all_in : (parts : List (List ℕ)) (k : ℕ) → ((p : ℕ) → p < k → Coordinates inst (part parts p))
      → Coordinates inst (join_all inst.header k parts)
  join_all_in parts zero each = none_in parts
  join_all_in parts (suc k) each =
      rw (join_all_suc inst.header parts k)
      (join_in v _ _ (join_all_in parts k (λ p b. each p (omega arith))) (each k (omega arith)))

  module _ (images ts rs : List (List ℕ)) (c i : ℕ) (inside : i < inst.header.rows) where
    -- the round of the first k players holds in a row, for the product of their images
    abbrev pub WholeHolds : ℕ → Type 0
    WholeHolds k =
        RowHolds (with_statement inst (multiply_all inst.header k images))
        (round_of (multiply_all inst.header k ts) c (join_all inst.header k rs)) i

    -- the round of player p holds in a row, for the player's image
    abbrev pub PartHolds : ℕ → Type 0
    PartHolds p = RowHolds (with_statement inst (part images p)) (round_of (part ts p) c (part rs p)) i

    -- the round of no player holds
    none_holds : WholeHolds 0
    unfolding statement_at
    none_holds =
        let h = inst.header in
        let big = valid_modulus v.table in
        none_row v.table rs i inside
        ∙ sym (rw (none_multiplied h ts big i inside, none_multiplied h images big i inside, one_pow c) (mod-eq_of_lt big))

    module _ (k : ℕ) (slots : (p : ℕ) → p < suc k → Coordinates inst (part rs p)) where
      -- the joined slots of the first k players
      before : Coordinates inst (join_all inst.header k rs)
      before = join_all_in rs k (λ p b. slots p (omega arith))

      -- where the round of the first k players holds, the round with one player more holds exactly where that player's does
      last_decides : WholeHolds k → WholeHolds (suc k) ↔ PartHolds k
      last_decides holds =
          let h = inst.header in
          rw (multiply_all_suc h images k, multiply_all_suc h ts k, join_all_suc h rs k)
          (second_decides v (multiply_all h k images) (part images k) (multiply_all h k ts) (part ts k) (join_all h k rs) (part rs k) c
          before (slots k (omega arith)) i inside holds)

      -- and where that player's round holds, exactly where the round of the first k does
      others_decide : PartHolds k → WholeHolds (suc k) ↔ WholeHolds k
      others_decide holds =
          let h = inst.header in
          rw (multiply_all_suc h images k, multiply_all_suc h ts k, join_all_suc h rs k)
          (first_decides v (multiply_all h k images) (part images k) (multiply_all h k ts) (part ts k) (join_all h k rs) (part rs k) c
          before (slots k (omega arith)) i inside holds)

    -- where all players' rounds hold in a row, so does the whole
    pub all_hold : (k : ℕ) → ((p : ℕ) → p < k → Coordinates inst (part rs p)) → ((p : ℕ) → p < k → PartHolds p) → WholeHolds k
    all_hold zero slots each = none_holds
    all_hold (suc k) slots each =
        (last_decides k slots (all_hold k (λ p b. slots p (omega arith)) (λ p b. each p (omega arith)))).1 (each k (omega arith))

    -- where one player's round fails in a row and all others' hold, the whole fails
    pub one_fails : (k : ℕ) → ((p : ℕ) → p < k → Coordinates inst (part rs p)) → (p : ℕ) → p < k → ¬ PartHolds p
        → ((o : ℕ) → o < k → o ≢ p → PartHolds o) → ¬ WholeHolds k
    one_fails zero slots p b fails others whole = omega arith
    one_fails (suc k) slots p b fails others whole = elim (ℕ_discrete p k) [
      | yes e ↦
          let earlier = all_hold k (λ o d. slots o (omega arith)) (λ o d. others o (omega arith) (λ same. omega arith)) in
          fails (subst PartHolds (sym e) ((last_decides k slots earlier).0 whole))
      | no apart ↦
          one_fails k (λ o d. slots o (omega arith)) p (omega arith) fails (λ o d. others o (omega arith))
          ((others_decide k slots (others k (omega arith) (λ same. apart (sym same)))).0 whole)
    ]
