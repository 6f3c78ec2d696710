-- Products of each choice among several columns: the tables of two columns, those of four, and a turn that takes eight columns by
-- two of them.
-- Assumes nothing.
use mathlib.Core.Path.{◌≡◌, sym, ap, ap₂, ◌∙◌}
use mathlib.Core.Logic.{◌≢◌}
use mathlib.Core.List.{List, [], ◌∷◌}
use Prim.Native.Nat.{ℕ, ◌+◌, ◌*◌, ◌/◌, ◌%◌, ◌^◌, ◌<◌}
use native.Mathlib.Decide.{dec_lt}
use native.Mathlib.Nat.{mod-lt, mod-mod, mul_assoc, mul-one, one-mul, pow-zero}
use native.Mathlib.Omega.{arith}
use lib.ListN.{get_or, length, length-set, set}
use lib.Seq.{get_or-set_other, get_or-set_same}
use Rattle.lists.proofs.Places.{tabulate_at}
use Rattle.numbers.specs.Product.{product}
use Rattle.numbers.proofs.Congruence.{mod_mul_both, mod_mul_left}
use Rattle.numbers.proofs.Powers.{pow_one}
use Rattle.powers.specs.declared.four.Four.{Four}
use Rattle.powers.specs.Places.{lanes, no_four, products_of}
use Rattle.powers.proofs.Lanes.{four_cases, lane, lane_same, lanes_are}
use Rattle.straus.specs.Choices.{Choices, choice_of, digit_of, pair_of}
use Rattle.straus.specs.MultiPowers.{lane_of, straus_turn}

-- ---- two columns

-- two factors that are known
powers_equal : (m : ℕ) {p q x y : ℕ} → p ≡ x → q ≡ y → p * q % m ≡ x * y % m
powers_equal m is_x is_y = ap₂ (λ (v w : ℕ). v * w % m) is_x is_y

-- ones, each of them, and their product
pub pairs_are : (m : ℕ) (o x y p : Four) → o ≡ record { a = 1 % m; b = 1 % m; c = 1 % m; d = 1 % m }
    → lanes p ≡ products_of m 4 (lanes x) (lanes y) → Choices m 4 (pair_of x y) (o ∷ x ∷ y ∷ p ∷ [])
unfolding pair_of products_of
pairs_are m o x y p are_ones is_p = record {
  each = four_cases _
      (λ i inside. ap (λ (x : Four). lane x i % m) are_ones ∙ ap (λ (v : ℕ). v % m) (lane_same _ i inside) ∙ mod-mod 1 m ∙ sym (powers_equal m (pow-zero _) (pow-zero _)))
      (λ i inside. sym (powers_equal m (pow_one (lane x i)) (pow-zero _) ∙ ap (λ (v : ℕ). v % m) (mul-one _)))
      (λ i inside. sym (powers_equal m (pow-zero _) (pow_one (lane y i)) ∙ ap (λ (v : ℕ). v % m) (one-mul _)))
      (λ i inside.
      ap (λ (v : ℕ). v % m) (tabulate_at 4 _ 0 is_p i inside) ∙ mod-mod _ m
      ∙ sym (powers_equal m (pow_one (lane x i)) (pow_one (lane y i))));
}

-- ---- four columns, by the tables of their halves

-- the first fours of a table, as many as size says, are the products of the two tables' fours, modulo m
pub record Crossed (m : ℕ) (low high : List Four) (size : ℕ) (table : List Four) : Type 0 where
  pub long : length table ≡ 16
  pub each : (d : ℕ) → d < size → (i : ℕ) → i < 4 → lane_of table i d % m ≡ lane_of low i (d % 4) * lane_of high i (d / 4) % m

-- four places, which are the first table: nothing of the second is chosen
pub crossed_start : (m : ℕ) (low high table : List Four) (x y : Four) → length table ≡ 16
    → get_or table 0 no_four ≡ get_or low 0 no_four → get_or table 1 no_four ≡ get_or low 1 no_four
    → get_or table 2 no_four ≡ get_or low 2 no_four → get_or table 3 no_four ≡ get_or low 3 no_four
    → Choices m 4 (pair_of x y) high → Crossed m low high 4 table
unfolding pair_of
crossed_start m low high table x y long is_0 is_1 is_2 is_3 highs = record {
  long = long;
  each = four_cases _ (first is_0) (first is_1) (first is_2) (first is_3);
}
  where
    none : (i : ℕ) → i < 4 → lane_of high i 0 % m ≡ 1 % m
    none i inside = highs.each 0 (omega arith) i inside ∙ powers_equal m (pow-zero _) (pow-zero _)

    first : {x y : Four} → x ≡ y → (i : ℕ) → i < 4 → lane x i % m ≡ lane y i * lane_of high i 0 % m
    first {x} {y} same i inside =
        ap (λ (v : Four). lane v i % m) same ∙ ap (λ (v : ℕ). v % m) (sym (mul-one (lane y i))) ∙ sym (mod_mul_both m (lane y i) 1)
        ∙ ap (λ (v : ℕ). lane y i % m * v % m) (sym (none i inside)) ∙ mod_mul_both m (lane y i) _

-- one more
pub crossed_more : {m : ℕ} {low high table : List Four} {d : ℕ} (next : Four) → Crossed m low high d table → d < 16
    → lanes next ≡ products_of m 4 (lanes (get_or low (d % 4) no_four)) (lanes (get_or high (d / 4) no_four))
    → Crossed m low high (d + 1) (set table d next)
unfolding products_of
crossed_more {m} {low} {high} {table} {d} next held inside is_next = record {
  long = length-set table d next ∙ held.long;
  each = λ e within i lane_inside. elim (dec_lt e d) [
    | yes earlier ↦
        let other : e ≢ d = λ same. absurd (omega arith) in
        ap (λ (x : Four). lane x i % m) (get_or-set_other table d e next no_four other) ∙ held.each e earlier i lane_inside
    | no later ↦
        let last : e ≡ d = omega arith in
        rw last (ap (λ (x : Four). lane x i % m) (get_or-set_same table d next no_four (omega (arith, held.long)))
        ∙ ap (λ (v : ℕ). v % m) (tabulate_at 4 _ 0 is_next i lane_inside) ∙ mod-mod _ m)
  ];
}

-- all sixteen are the choices of four columns
pub crossed_choices : {m : ℕ} {low high table : List Four} (columns : List Four) (at : ℕ) → Crossed m low high 16 table
    → Choices m 4 (pair_of (get_or columns at no_four) (get_or columns (at + 1) no_four)) low
    → Choices m 4 (pair_of (get_or columns (at + 2) no_four) (get_or columns (at + 3) no_four)) high
    → Choices m 16 (choice_of columns at) table
unfolding choice_of
crossed_choices {m} columns at crossed lows highs = record {
  each = λ d inside i within.
      let low = lows.each (d % 4) (mod-lt d (omega arith)) i within in
      let high = highs.each (d / 4) (omega arith) i within in
      crossed.each d inside i within ∙ sym (mod_mul_both m _ _) ∙ ap₂ (λ (v w : ℕ). v * w % m) low high ∙ mod_mul_both m _ _;
}

-- ---- eight columns

-- the two bits of a number below four
pair_bits : (a b : ℕ) → a < 2 → b < 2 → ((a + 2 * b) % 2 ≡ a) × ((a + 2 * b) / 2 % 2 ≡ b)
pair_bits a b bit bit' = (omega arith, omega arith)

-- the two pairs of bits of one below sixteen
digit_pairs : (a b c d : ℕ) → a < 2 → b < 2 → c < 2
    → ((a + 2 * b + 4 * c + 8 * d) % 4 ≡ a + 2 * b) × ((a + 2 * b + 4 * c + 8 * d) / 4 ≡ c + 2 * d)
digit_pairs a b c d bit bit' bit'' = (omega arith, omega arith)

module _ (columns : List Four) (exponents : List ℕ) (k at i : ℕ) where
  -- a column by its bit
  abbrev bit_power : ℕ → ℕ
  bit_power j = lane_of columns i j ^ (get_or exponents j 0 / 2 ^ k % 2)

  -- the choice that the bits k of four exponents make
  choice_bits : choice_of columns at i (digit_of exponents at k)
      ≡ bit_power at * bit_power (at + 1) * (bit_power (at + 2) * bit_power (at + 3))
  unfolding choice_of pair_of
  choice_bits =
      let a : ℕ = get_or exponents at 0 / 2 ^ k % 2 in
      let b : ℕ = get_or exponents (at + 1) 0 / 2 ^ k % 2 in
      let c : ℕ = get_or exponents (at + 2) 0 / 2 ^ k % 2 in
      let d : ℕ = get_or exponents (at + 3) 0 / 2 ^ k % 2 in
      let (low, high) = digit_pairs a b c d (mod-lt _ (omega arith)) (mod-lt _ (omega arith)) (mod-lt _ (omega arith)) in
      let (is_a, is_b) = pair_bits a b (mod-lt _ (omega arith)) (mod-lt _ (omega arith)) in
      let (is_c, is_d) = pair_bits c d (mod-lt _ (omega arith)) (mod-lt _ (omega arith)) in
      rw (low, high, is_a, is_b, is_c, is_d)

-- a product of eight factors by its halves
product_halves : (g : ℕ → ℕ) → product 8 g ≡ g 0 * g 1 * (g 2 * g 3) * (g 4 * g 5 * (g 6 * g 7))
unfolding product
product_halves g = omega arith

-- a factor that is another modulo m
factor_step : (m x y z : ℕ) {v w : ℕ} → v ≡ x % m → y % m ≡ z % m → w ≡ v * y % m → w ≡ x * z % m
factor_step m x y z is_v same is_w =
    is_w ∙ ap (λ (u : ℕ). u * y % m) is_v ∙ mod_mul_left m x y ∙ sym (mod_mul_both m x y) ∙ ap (λ (u : ℕ). x % m * u % m) same
    ∙ mod_mul_both m x z

-- a turn: the square, and the choices of the first four columns and of the last four
pub choices_turn : (m k d e : ℕ) (columns low high : List Four) (exponents : List ℕ) (v s h r : Four)
    → Choices m 16 (choice_of columns 0) low → Choices m 16 (choice_of columns 4) high → d ≡ digit_of exponents 0 k
    → e ≡ digit_of exponents 4 k → lanes s ≡ products_of m 4 (lanes v) (lanes v)
    → lanes h ≡ products_of m 4 (lanes s) (lanes (get_or low d no_four))
    → lanes r ≡ products_of m 4 (lanes h) (lanes (get_or high e no_four))
    → lanes r ≡ straus_turn m 8 k (lane_of columns) exponents (lanes v)
unfolding products_of straus_turn
choices_turn m k d e columns low high exponents v s h r lows highs is_d is_e is_s is_h is_r =
    lanes_are r _ (λ i inside.
    let first = lows.each d (omega arith) i inside in
    let last = highs.each e (omega arith) i inside in
    let half = factor_step m _ _ _ (tabulate_at 4 _ 0 is_s i inside) first (tabulate_at 4 _ 0 is_h i inside) in
    factor_step m _ _ _ half last (tabulate_at 4 _ 0 is_r i inside)
    ∙ ap (λ (x : ℕ). x % m) (mul_assoc _ _ _ ∙ ap (λ (x : ℕ). lane v i * lane v i * x)
    (ap₂ (λ (x y : ℕ). x * y)
    (ap (choice_of columns 0 i) is_d ∙ choice_bits columns exponents k 0 i)
    (ap (choice_of columns 4 i) is_e ∙ choice_bits columns exponents k 4 i)
    ∙ sym (product_halves (λ j. lane_of columns i j ^ (get_or exponents j 0 / 2 ^ k % 2))))))
