-- Powers by digits of two bits, the highest first: before digit k is taken the value is the power by the exponent without it and
-- the digits below.
-- Assumes nothing.
use mathlib.Core.Path.{◌≡◌, sym, ap, ◌∙◌}
use mathlib.Core.List.{List, [], ◌∷◌}
use Prim.Native.Nat.{ℕ, ◌+◌, ◌*◌, ◌/◌, ◌%◌, ◌^◌, ◌<◌}
use native.Mathlib.Nat.{mod-lt, one-mul, pow-zero}
use native.Mathlib.Omega.{arith}
use lib.ListN.{get_or}
use lib.Pow.{pow-add}
use Rattle.lists.proofs.Places.{tabulate_agree, tabulate_at}
use Rattle.numbers.proofs.Congruence.{mod_mul_left, mod_mul_both}
use Rattle.numbers.proofs.Powers.{pow_one}
use Rattle.powers.specs.declared.four.Four.{Four}
use Rattle.powers.specs.Places.{FirstPowers, lanes, no_four, powers_of, products_of}
use Rattle.powers.proofs.Exponents.{digit_none, digit_top, digits_below}
use Rattle.powers.proofs.Lanes.{four_cases, lane_same, lanes_are}

-- four numbers are the powers of xs by e modulo m
pub record Powers (m e : ℕ) (xs : List ℕ) (x : Four) : Type 0 where
  pub are : lanes x ≡ powers_of m e 4 xs

-- ones are the powers by 0
powers_none : (m : ℕ) (xs : List ℕ) → Powers m 0 xs (record { a = 1 % m; b = 1 % m; c = 1 % m; d = 1 % m })
unfolding powers_of
powers_none m xs = record {
  are = lanes_are _ _ (λ k inside. lane_same _ k inside ∙ ap (λ (x : ℕ). x % m) (sym (pow-zero (get_or xs k 0))));
}

-- ones times the bases are the powers by 1
powers_first : (m : ℕ) (xs : List ℕ) (r : Four)
    → lanes r ≡ products_of m 4 (lanes (record { a = 1 % m; b = 1 % m; c = 1 % m; d = 1 % m })) xs → Powers m 1 xs r
unfolding powers_of products_of
powers_first m xs r is_r = record {
  are =
      is_r ∙ tabulate_agree 4 _ _ (λ k inside. ap (λ (x : ℕ). x * get_or xs k 0 % m) (lane_same _ k inside)
      ∙ mod_mul_left m 1 _ ∙ ap (λ (x : ℕ). x % m) (one-mul _ ∙ sym (pow_one _)));
}

-- the products of two powers are those by the sum
powers_mul : {m i j : ℕ} {xs : List ℕ} {p q : Four} (r : Four) → Powers m i xs p → Powers m j xs q
    → lanes r ≡ products_of m 4 (lanes p) (lanes q) → Powers m (i + j) xs r
unfolding powers_of products_of
powers_mul {m} {i} {j} {xs} r is_p is_q is_r = record {
  are =
      is_r ∙ tabulate_agree 4 _ _ (λ k inside. rw (tabulate_at 4 _ 0 is_p.are k inside, tabulate_at 4 _ 0 is_q.are k inside)
      (mod_mul_both m _ _ ∙ ap (λ (x : ℕ). x % m) (sym (pow-add (get_or xs k 0) i j))));
}

-- the table that the turns read
pub first_powers : (m : ℕ) (x p₀ p₁ p₂ p₃ : Four) → p₀ ≡ record { a = 1 % m; b = 1 % m; c = 1 % m; d = 1 % m }
    → lanes p₁ ≡ products_of m 4 (lanes p₀) (lanes x) → lanes p₂ ≡ products_of m 4 (lanes p₁) (lanes p₁)
    → lanes p₃ ≡ products_of m 4 (lanes p₂) (lanes p₁) → FirstPowers m x (p₀ ∷ p₁ ∷ p₂ ∷ p₃ ∷ [])
first_powers m x p₀ p₁ p₂ p₃ are_ones is_first is_second is_third =
    let first = powers_first m (lanes x) p₁ (rw are_ones at is_first) in
    let second = powers_mul p₂ first first is_second in
    let none : Powers m 0 (lanes x) p₀ = rw are_ones (powers_none m (lanes x)) in
    record { each = four_cases _ none.are first.are second.are (powers_mul p₃ second first is_third).are }

-- by a digit k of the exponent e, which the table has in place d
module _ (m e k d : ℕ) (x : Four) (fours : List Four) (table : FirstPowers m x fours) (is_d : d ≡ e / 4 ^ k % 4) where
  -- the power by the digit
  at_digit : Powers m (e / 4 ^ k % 4) (lanes x) (get_or fours d no_four)
  at_digit =
      let inside : d < 4 = omega (arith, mod-lt (e / 4 ^ k) {m = 4} (omega arith)) in
      record { are = table.each d inside ∙ ap (λ (x' : ℕ). powers_of m x' 4 (lanes x)) is_d }

  -- the start: no digit above is set
  pub powers_start : e < 4 ^ (k + 1) → Powers m (e / 4 ^ k) (lanes x) (get_or fours d no_four)
  powers_start top = rw (digit_top e k top) at at_digit

  -- a turn: two squarings and a product with the power by the digit
  pub powers_turn : {p : Four} (s t r : Four) → Powers m (e / 4 ^ (k + 1)) (lanes x) p
      → lanes s ≡ products_of m 4 (lanes p) (lanes p) → lanes t ≡ products_of m 4 (lanes s) (lanes s)
      → lanes r ≡ products_of m 4 (lanes t) (lanes (get_or fours d no_four)) → Powers m (e / 4 ^ k) (lanes x) r
  powers_turn s t r is_p is_s is_t is_r =
      let square = powers_mul s is_p is_p is_s in
      rw (digits_below e k) at (powers_mul r (powers_mul t square square is_t) at_digit is_r)

-- the end: no digit is left
pub powers_end : (m e k : ℕ) (xs : List ℕ) {p : Four} → Powers m (e / 4 ^ k) xs p → k ≡ 0 → lanes p ≡ powers_of m e 4 xs
powers_end m e k xs held none =
    held.are ∙ ap (λ (x : ℕ). powers_of m x 4 xs) (ap (λ (d : ℕ). e / 4 ^ d) none ∙ digit_none e)
