-- Maurer's formula carries products to products.
-- Assumes nothing.
use mathlib.Core.Path.{◌≡◌}
use lib.IntN.{ℤ}
use Rattle.groups.specs.Group.{Group, group_power, group_quotient}
use Rattle.groups.specs.Transcript.{witness_formula}
use Rattle.groups.proofs.Groups.{interchange, inverse_of_product}
use Rattle.groups.proofs.Powers.{power_of_product}

module _ {A : Type 0} (G : Group A) where
  -- a quotient of products is the product of the quotients
  pub quotient_of_products : (r s r' s' : A)
      → group_quotient G (G.product r s) (G.product r' s') ≡ G.product (group_quotient G r r') (group_quotient G s s')
  unfolding group_quotient
  quotient_of_products r s r' s' = cc (inverse_of_product G r' s', interchange G r s (G.inverse r') (G.inverse s'))

  -- the formula of products is the product of the formulas
  pub formula_of_products : (u u' : A) (a b : ℤ) (r r' s s' : A)
      → witness_formula G (G.product u u') a b (G.product r s) (G.product r' s')
      ≡ G.product (witness_formula G u a b r r') (witness_formula G u' a b s s')
  unfolding witness_formula
  formula_of_products u u' a b r r' s s' =
      cc (
        power_of_product G u u' a,
        quotient_of_products r s r' s',
        power_of_product G (group_quotient G r r') (group_quotient G s s') b,
        interchange G (group_power G u a) (group_power G u' a) (group_power G (group_quotient G r r') b) (group_power G (group_quotient G s s') b),
      )
