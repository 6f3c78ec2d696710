-- The integers −a and b of the extractor's formula: b inverts delta modulo ℓ, and delta · b is ℓ · a + 1.
-- Assumes nothing.
use mathlib.Core.Path.{◌≡◌, sym}
use Prim.Native.Nat.{ℕ, ◌+◌, ◌*◌, ◌/◌, ◌%◌, ◌≤◌, ◌<◌}
use native.Mathlib.Nat.{le_of_lt, mod-add-div, mul_comm, mul-le-mul_left, div-le_of_le-mul}
use native.Mathlib.Omega.{arith}
use lib.IntN.{pos, neg_ℤ}
use Rattle.groups.specs.Transcript.{Bezout}
use Rattle.numbers.specs.Gcd.{gcd}
use Rattle.numbers.specs.Inverse.{inverse}
use Rattle.numbers.proofs.Congruence.{mod_is_one}
use Rattle.numbers.proofs.Difference.{pos_difference, neg_difference, minus_difference}
use Rattle.numbers.proofs.Difference.{difference_add, difference_mul, difference_same}
use Rattle.numbers.proofs.Inverse.{inverse_inverts}
use Rattle.extractor.specs.Coefficients.{left_coefficient}

-- the quotient of delta · b by ℓ is at most delta, for a b below ℓ
pub quotient_within : (order delta b : ℕ) → b < order → delta * b / order ≤ delta
quotient_within order delta b below =
    div-le_of_le-mul order (rw (mul_comm order delta) (mul-le-mul_left delta (le_of_lt below)))

-- a from its parts
pub left_is : (order delta : ℕ) {b : ℕ} → b ≡ inverse order delta → delta * b / order ≡ left_coefficient order delta
unfolding left_coefficient
left_is order delta is_inverse = rw is_inverse

module _ (order delta : ℕ) (big : 1 < order) (coprime : gcd delta order ≡ 1) where
  -- delta · b is ℓ · a + 1
  one_more : delta * inverse order delta ≡ 1 + order * left_coefficient order delta
  unfolding left_coefficient
  one_more =
      let product = delta * inverse order delta in
      let rest : product % order ≡ 1 = mod_is_one big (inverse_inverts order delta big coprime).one in
      sym (rw rest at (mod-add-div product order))

  -- the integers −a and b fit the formula for challenges that differ by delta
  pub coefficients_fit : (c c' : ℕ) → c ≡ c' + delta
      → Bezout order c c' (neg_ℤ (pos (left_coefficient order delta))) (pos (inverse order delta))
  coefficients_fit c c' larger =
      let a = left_coefficient order delta in
      let b = inverse order delta in
      let whole = pos_difference {n = order} {a = order} {b = 0} (omega arith) in
      let first = difference_mul whole (neg_difference a {a = 0} {b = a} (omega arith)) in
      let second = difference_mul (minus_difference c c') (pos_difference {n = b} {a = b} {b = 0} (omega arith)) in
      difference_same (difference_add first second) (pos_difference (rw larger (omega (arith, one_more))))
