-- The tests of a group element and of a coordinate of the domain, return by return.
-- Assumes nothing.
use mathlib.Core.Path.{◌≡◌}
use mathlib.Core.Bool.{false}
use mathlib.Core.Logic.{◌≢◌}
use Prim.Native.Nat.{ℕ, ◌%◌, ◌^◌, ◌≤◌, ◌<◌}
use lib.Dec.{eqb, ltb}
use borrow.Author.Tests.{eq-eqb, ne_eqb, lt-ltb, le-ltb, le-leb, lt-leb}
use Rattle.types.specs.declared.Header.{Header}
use Rattle.numbers.specs.Gcd.{gcd}
use Rattle.sigma.specs.Element.{is_element, is_coordinate}
use Rattle.sigma.specs.Instance.{is_exponent}

module _ (h : Header) (v : ℕ) where
  -- 0 is no group element
  pub element_low : v < 1 → false ≡ is_element h v
  unfolding is_element
  element_low low = rw (lt-leb 1 v low)

  -- the modulus and what lies above it is no group element
  pub element_high : 1 ≤ v → h.modulus ≤ v → false ≡ is_element h v
  unfolding is_element
  element_high positive high = rw (le-leb 1 v positive, le-ltb v h.modulus high)

  -- in kind 1 the power by q decides
  pub element_exponent : {power : ℕ} → 1 ≤ v → v < h.modulus → h.kind ≡ 1 → power ≡ v ^ h.order % h.modulus
      → eqb power 1 ≡ is_element h v
  unfolding is_element is_exponent
  element_exponent positive below kind is_power =
      rw (le-leb 1 v positive, lt-ltb v h.modulus below, eq-eqb h.kind 1 kind, is_power)

  -- in kind 2 the greatest common divisor decides
  pub element_root : {divisor : ℕ} → 1 ≤ v → v < h.modulus → h.kind ≢ 1 → divisor ≡ gcd v h.modulus
      → eqb divisor 1 ≡ is_element h v
  unfolding is_element is_exponent
  element_root positive below kind is_gcd =
      rw (le-leb 1 v positive, lt-ltb v h.modulus below, ne_eqb h.kind 1 kind, is_gcd)

  -- in kind 1 a coordinate is a number below q
  pub coordinate_exponent : h.kind ≡ 1 → ltb v h.order ≡ is_coordinate h v
  unfolding is_coordinate is_exponent
  coordinate_exponent kind = rw (eq-eqb _ 1 kind)

  -- in kind 2 a coordinate is a group element
  pub coordinate_root : h.kind ≢ 1 → is_element h v ≡ is_coordinate h v
  unfolding is_coordinate is_exponent
  coordinate_root kind = rw (ne_eqb _ 1 kind)
