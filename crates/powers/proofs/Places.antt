-- Powers in the places of an array, and products with them.
-- Assumes nothing.
use mathlib.Core.Path.{◌≡◌, sym, ◌∙◌}
use mathlib.Core.List.{List}
use Prim.Native.Nat.{ℕ, ◌%◌, ◌^◌, ◌<◌}
use lib.ListN.{get_or}
use Rattle.lists.specs.Places.{places}
use Rattle.lists.proofs.Places.{tabulate_agree, tabulate_at, get_d_places}
use Rattle.numbers.proofs.Congruence.{mod_mul_right}
use Rattle.powers.specs.Places.{products_of, powers_of, mul_powers}

module _ (m e n : ℕ) (values raised : List ℕ) (are : places n raised ≡ powers_of m e n values) where
  -- a power at its place
  pub power_at : (i : ℕ) → i < n → get_or raised i 0 ≡ get_or values i 0 ^ e % m
  unfolding powers_of
  power_at i inside = sym (get_d_places n raised i inside) ∙ tabulate_at n _ 0 are i inside

  -- a power may be reduced before it is multiplied
  pub products_powers : (xs : List ℕ) → products_of m n xs raised ≡ mul_powers m e n xs values
  unfolding products_of mul_powers
  products_powers xs = tabulate_agree n _ _ (λ i inside. rw (power_at i inside) (mod_mul_right m _ _))
