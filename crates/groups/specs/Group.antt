-- Commutative groups and their powers with integer exponents.
-- Assumes nothing.
use Rattle.std.specs.Prelude.{◌≡◌, ℕ, zero, suc, ℤ, pos, negsuc}

-- a commutative group on the set A
pub record Group (A : Type 0) : Type 0 where
  pub is_set : IsSet A
  pub product : A → A → A
  pub unit : A
  pub inverse : A → A
  pub associative : (x y z : A) → product (product x y) z ≡ product x (product y z)
  pub commutative : (x y : A) → product x y ≡ product y x
  pub unit_left : (x : A) → product unit x ≡ x
  pub inverse_left : (x : A) → product (inverse x) x ≡ unit

-- the product of n copies of x
unfoldable pub repeated : {A : Type 0} → (A → A → A) → A → A → ℕ → A
repeated product unit x zero = unit
repeated product unit x (suc n) = product (repeated product unit x n) x

-- x^k under a product, a unit and an inverse: a negative power is a power of the inverse
unfoldable pub power_with : {A : Type 0} → (A → A → A) → A → (A → A) → A → ℤ → A
power_with product unit inverse x (pos n) = repeated product unit x n
power_with product unit inverse x (negsuc n) = repeated product unit (inverse x) (suc n)

-- x^k in the group
unfoldable pub group_power : {A : Type 0} → Group A → A → ℤ → A
group_power G = power_with G.product G.unit G.inverse

-- the quotient x / y in the group
unfoldable pub group_quotient : {A : Type 0} → Group A → A → A → A
group_quotient G x y = G.product x (G.inverse y)
