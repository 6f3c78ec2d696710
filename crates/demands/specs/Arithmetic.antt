-- The arithmetic and the numerals that the other statements are made of, by what they mean.
-- Assumes nothing.
use Rattle.std.specs.Prelude.{ℕ, suc, ◌+◌, ◌*◌, ◌%◌, ◌^◌, ◌<◌, ◌≤◌, ◌≡◌, ◌≢◌, List, get_or}
use Rattle.encoding.specs.Text.{AllDigits, decimal, from_digits}
use Rattle.numbers.specs.Gcd.{IsGcd, gcd}
use Rattle.numbers.specs.Product.{product, sum}
use Rattle.sigma.specs.Image.{row_image}
use Rattle.sigma.specs.Instance.{Table, entry}

pub record Arithmetic : Type 0 where
  -- row i of [x] (01, "The sheet"): in kind 1 the product over j of (entry i,j)^(x_j) mod m, in kind 2 x_i^e mod m
  pub exponent_image : (table : Table) (x : List ℕ) (i : ℕ) → table.header.kind ≡ 1
      → row_image table x i ≡ product table.header.columns (λ j. entry table i j ^ get_or x j 0) % table.header.modulus
  pub root_image : (table : Table) (x : List ℕ) (i : ℕ) → table.header.kind ≢ 1
      → row_image table x i ≡ get_or x i 0 ^ table.header.order % table.header.modulus
  -- a sum and a product over the indices below n
  pub no_term : (f : ℕ → ℕ) → sum 0 f ≡ 0
  pub one_term_more : (n : ℕ) (f : ℕ → ℕ) → sum (suc n) f ≡ sum n f + f n
  pub no_factor : (f : ℕ → ℕ) → product 0 f ≡ 1
  pub one_factor_more : (n : ℕ) (f : ℕ → ℕ) → product (suc n) f ≡ product n f * f n
  -- gcd is the greatest common divisor
  pub divisor : (a b : ℕ) → IsGcd a b (gcd a b)
  -- a number in decimal: ASCII digits that give it back, without a leading zero
  pub digits : (n : ℕ) → AllDigits (decimal n)
  pub given_back : (n : ℕ) → from_digits 0 (decimal n) ≡ n
  pub leading : (n : ℕ) → 0 < n → 49 ≤ get_or (decimal n) 0 0
