-- A product over the players of a team, a player a turn, and a slot that they make.
-- Assumes nothing.
use Prim.Native.Nat.{ℕ, ◌+◌, ◌*◌, ◌%◌}
use mathlib.Core.Path.{◌≡◌, sym, ap}
use mathlib.Core.Logic.{◌≢◌}
use mathlib.Core.List.{List}
use native.Mathlib.Numerals.{add-one}
use borrow.Author.Tests.{eq-eqb, ne_eqb}
use Rattle.types.specs.declared.Header.{Header}
use Rattle.numbers.specs.Product.{product, sum}
use Rattle.numbers.proofs.Congruence.{mod_mul_left}
use Rattle.numbers.proofs.Product.{product_suc, product_zero}
use Rattle.sigma.specs.Instance.{is_exponent}
use Rattle.combiner.specs.Parts.{joined_slot, place_of}

module _ (f : ℕ → ℕ) where
  -- no factor yet
  pub product_start : (m : ℕ) → 1 % m ≡ product 0 f % m
  product_start m = ap (λ (k : ℕ). k % m) (sym (product_zero f))

  -- one factor more
  pub product_turn : (m p : ℕ) {value next : ℕ} → value ≡ product p f % m → next ≡ value * f p % m → next ≡ product (p + 1) f % m
  product_turn m p is_value is_next = rw (is_next, is_value, add-one p, product_suc p f) (mod_mul_left m _ _)

module _ (h : Header) (count : ℕ) (parts : List (List ℕ)) (j : ℕ) where
  -- in kind 1 the sum mod q
  pub slot_sum : h.kind ≡ 1 → {total : ℕ} → total ≡ sum count (place_of parts j) → total % h.order ≡ joined_slot h count parts j
  unfolding joined_slot is_exponent
  slot_sum kind is_total = rw (eq-eqb h.kind 1 kind, is_total)

  -- in kind 2 the product mod m
  pub slot_product : h.kind ≢ 1 → product count (place_of parts j) % h.modulus ≡ joined_slot h count parts j
  unfolding joined_slot is_exponent
  slot_product kind = rw (ne_eqb h.kind 1 kind)
