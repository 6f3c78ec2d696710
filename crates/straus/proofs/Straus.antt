-- A product of powers with the squarings shared, the exponents' high bits first: before the turn at bit k the value is the product
-- of the powers by the exponents without their k low bits.
-- Assumes nothing.
use mathlib.Core.Path.{◌≡◌, sym, ap, ◌∙◌}
use mathlib.Core.Logic.{◌≢◌}
use mathlib.Core.List.{List}
use Prim.Native.Nat.{ℕ, ◌+◌, ◌*◌, ◌/◌, ◌%◌, ◌^◌, ◌<◌}
use native.Mathlib.Nat.{mul_assoc, mul-one, div-eq_of_lt, div-one, div-div-eq-div-mul, mod-add-div, mod-lt, mod-mod, pow-zero, pow-suc}
use native.Mathlib.Nat.{lt_of_le_of_lt}
use native.Mathlib.Numerals.{add-one}
use native.Mathlib.Omega.{arith}
use lib.ListN.{get_or}
use lib.Pow.{pow-add}
use Rattle.lists.proofs.Places.{tabulate_at}
use Rattle.numbers.specs.Product.{product}
use Rattle.numbers.proofs.Congruence.{mod_mul_left, mod_mul_both}
use Rattle.numbers.proofs.Powers.{pow_one}
use Rattle.numbers.proofs.Product.{product_zero, product_suc, product_agree, product_mul, product_one}
use Rattle.powers.specs.declared.four.Four.{Four}
use Rattle.powers.specs.Places.{lanes}
use Rattle.powers.proofs.Lanes.{lane, lane_same, lanes_are}
use Rattle.straus.specs.MultiPowers.{AtMost, multi_powers, straus_turn}

-- ---- the columns in a turn at bit k, for the factors f, the exponents e and the square y

module _ (m : ℕ) (f e : ℕ → ℕ) (k y : ℕ) where
  -- y times the factors of the first j columns whose exponent has the bit, modulo m
  pub times_columns : ℕ → ℕ
  times_columns j = y * product j (λ i. f i ^ (e i / 2 ^ k % 2)) % m

  -- no column yet
  pub columns_start : (x : ℕ) → y ≡ x % m → y ≡ times_columns 0
  unfolding times_columns
  columns_start x is_y = rw (product_zero, mul-one, is_y) (sym (mod-mod x m))

  -- a column whose exponent has the bit
  pub column_set : (j : ℕ) {v w : ℕ} → e j / 2 ^ k % 2 ≡ 1 → v ≡ times_columns j → w ≡ v * f j % m → w ≡ times_columns (j + 1)
  unfolding times_columns
  column_set j set is_v is_w =
      rw (is_w, is_v, add-one j, product_suc, set, pow_one) (mod_mul_left m _ _ ∙ ap (λ (x : ℕ). x % m) (mul_assoc _ _ _))

  -- one whose exponent has it not
  pub column_clear : (j : ℕ) {v w : ℕ} → e j / 2 ^ k % 2 ≢ 1 → v ≡ times_columns j → w ≡ v → w ≡ times_columns (j + 1)
  unfolding times_columns
  column_clear j clear is_v is_w =
      let none : e j / 2 ^ k % 2 ≡ 0 = omega (arith, mod-lt (e j / 2 ^ k) {m = 2} (omega arith)) in
      rw (add-one j, product_suc, none, pow-zero, mul-one) (is_w ∙ is_v)

  -- all of n columns
  pub columns_end : (x n : ℕ) {w : ℕ} → y ≡ x % m → w ≡ times_columns n → w ≡ x * product n (λ i. f i ^ (e i / 2 ^ k % 2)) % m
  unfolding times_columns
  columns_end x n is_y is_w = rw (is_w, is_y) (mod_mul_left m x _)

-- ---- the turns, over n columns

module _ (m : ℕ) (f e : ℕ → ℕ) (n : ℕ) where
  -- the product of the powers by the exponents without their k low bits, modulo m
  pub above : ℕ → ℕ
  above k = product n (λ j. f j ^ (e j / 2 ^ k)) % m

  -- where k bits hold each exponent, nothing is left of it
  pub above_start : (k : ℕ) {v : ℕ} → ((j : ℕ) → j < n → e j < 2 ^ k) → v ≡ 1 % m → v ≡ above k
  unfolding above
  above_start k small is_one =
      is_one ∙ ap (λ (x : ℕ). x % m) (sym
      (product_agree n _ (λ j. 1) (λ j h. ap (λ (x : ℕ). f j ^ x) (div-eq_of_lt (small j h)) ∙ pow-zero (f j)) ∙ product_one n))

  -- a turn takes one bit more
  pub above_turn : (k : ℕ) {v w : ℕ} → v ≡ above (k + 1)
      → w ≡ v * v * product n (λ j. f j ^ (e j / 2 ^ k % 2)) % m → w ≡ above k
  unfolding above
  above_turn k is_v is_w =
      let before : ℕ = product n (λ j. f j ^ (e j / 2 ^ (k + 1))) in
      let bits : ℕ = product n (λ j. f j ^ (e j / 2 ^ k % 2)) in
      is_w ∙ ap (λ (x : ℕ). x * x * bits % m) is_v ∙ sym (mod_mul_left m (before % m * (before % m)) bits)
      ∙ ap (λ (x : ℕ). x * bits % m) (mod_mul_both m before before) ∙ mod_mul_left m (before * before) bits
      ∙ ap (λ (x : ℕ). x % m)
      (ap (λ (x : ℕ). x * bits) (sym (product_mul n _ _)) ∙ sym (product_mul n _ _) ∙ product_agree n _ _ (λ j h. factor j))
    where
      halves : (j : ℕ) → e j / 2 ^ (k + 1) ≡ e j / 2 ^ k / 2
      halves j = ap (λ (x : ℕ). e j / x) (ap (λ (x : ℕ). 2 ^ x) (add-one k) ∙ pow-suc 2 k) ∙ sym (div-div-eq-div-mul (e j) (2 ^ k) 2)

      factor : (j : ℕ) → f j ^ (e j / 2 ^ (k + 1)) * f j ^ (e j / 2 ^ (k + 1)) * f j ^ (e j / 2 ^ k % 2) ≡ f j ^ (e j / 2 ^ k)
      factor j =
          let half : ℕ = e j / 2 ^ k / 2 in
          let bit : ℕ = e j / 2 ^ k % 2 in
          let whole : half + half + bit ≡ e j / 2 ^ k = omega (arith, mod-add-div (e j / 2 ^ k) 2) in
          rw (halves j)
          (sym (pow-add (f j) (half + half) bit ∙ ap (λ (x : ℕ). x * f j ^ bit) (pow-add (f j) half half))
          ∙ ap (λ (x : ℕ). f j ^ x) whole)

  -- without any bit taken away it is the product asked for
  pub above_end : above 0 ≡ product n (λ j. f j ^ e j) % m
  unfolding above
  above_end =
      ap (λ (x : ℕ). x % m)
      (product_agree n _ _ (λ j h. ap (λ (x : ℕ). f j ^ x) (ap (λ (x : ℕ). e j / x) (pow-zero 2) ∙ div-one (e j))))

-- ---- four rows side by side

module _ (m n : ℕ) (entry : ℕ → ℕ → ℕ) (exponents : List ℕ) where
  -- each of four values is its row's product before the turn at bit k
  pub record FourAbove (k : ℕ) (values : Four) : Type 0 where
    pub each : (i : ℕ) → i < 4 → lane values i ≡ above m (entry i) (λ j. get_or exponents j 0) n k

  -- before the first turn
  pub four_start : (k most : ℕ) {values : Four} → AtMost most n exponents → most < 2 ^ k
      → values ≡ record { a = 1 % m; b = 1 % m; c = 1 % m; d = 1 % m } → FourAbove k values
  four_start k most each_most short are_ones = record {
    each = λ i inside.
        above_start m _ _ n k (λ j within. lt_of_le_of_lt (each_most.each j within) short)
        (ap (λ (x : Four). lane x i) are_ones ∙ lane_same _ i inside);
  }

  -- a turn
  pub four_turn : {k : ℕ} {values next : Four} → FourAbove (k + 1) values → lanes next ≡ straus_turn m n k entry exponents (lanes values)
      → FourAbove k next
  unfolding straus_turn
  four_turn {k} held are = record { each = λ i inside. above_turn m _ _ n k (held.each i inside) (tabulate_at 4 _ 0 are i inside) }

  -- after the last
  pub four_end : {values : Four} → FourAbove 0 values → lanes values ≡ multi_powers m 4 n entry exponents
  unfolding multi_powers
  four_end {values} held = lanes_are values _ (λ i inside. held.each i inside ∙ above_end m _ _ n)
