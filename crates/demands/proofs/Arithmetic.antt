-- The arithmetic and the numerals mean what they are said to mean.
-- Assumes nothing.
use mathlib.Core.Path.{refl}
use Rattle.encoding.proofs.Text.{decimal_ascii, decimal_back, decimal_first}
use Rattle.numbers.specs.Product.{product, sum}
use Rattle.numbers.proofs.Gcd.{gcd_is_gcd}
use Rattle.sigma.proofs.ByKind.{row_image_exponent, row_image_root}
use Rattle.demands.specs.Arithmetic.{Arithmetic}

pub arithmetic : Arithmetic
unfolding sum product
arithmetic = record {
  exponent_image = λ table x i e. row_image_exponent table e x i;
  root_image = λ table x i other. row_image_root table other x i;
  no_term = λ f. refl;
  one_term_more = λ n f. refl;
  no_factor = λ f. refl;
  one_factor_more = λ n f. refl;
  divisor = gcd_is_gcd;
  digits = decimal_ascii;
  given_back = decimal_back;
  leading = decimal_first;
}
