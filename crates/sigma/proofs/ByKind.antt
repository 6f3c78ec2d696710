-- The two kinds: what the definitions that ask for the kind say in each.
-- Assumes nothing.
use Prim.Native.Nat.{ℕ, ◌+◌, ◌*◌, ◌%◌, ◌^◌}
use mathlib.Core.Path.{◌≡◌}
use mathlib.Core.Logic.{◌≢◌}
use mathlib.Core.Bool.{true, false}
use mathlib.Core.List.{List}
use lib.IntN.{ℤ, pos, ◌-ℤ◌, ◌*ℤ◌}
use lib.ListN.{get_or}
use Rattle.types.specs.declared.Header.{Header}
use Rattle.numbers.specs.Integer.{residue, power}
use Rattle.numbers.specs.Inverse.{inverse}
use Rattle.numbers.specs.Product.{product}
use Rattle.rules.proofs.Says.{says_elim, says_false}
use Rattle.sigma.specs.Instance.{Table, is_exponent, entry}
use Rattle.sigma.specs.Image.{row_image}
use Rattle.sigma.specs.Round.{response_coordinate}
use Rattle.sigma.specs.Element.{combine}
use Rattle.sigma.specs.Extractor.{slot_formula}
use Rattle.sigma.proofs.Tests.{says_exponent}

-- the test of the kind is true in kind 1
pub exponent_kind : (h : Header) → h.kind ≡ 1 → is_exponent h ≡ true
exponent_kind h = (says_exponent h).complete

-- the test of the kind is false in the other kind
pub root_kind : (h : Header) → h.kind ≢ 1 → is_exponent h ≡ false
root_kind h = (says_false (says_exponent h)).1

-- what is had in kind 1 and in the other kind is had
pub by_kind : (h : Header) {A : Type 0} → (h.kind ≡ 1 → A) → (h.kind ≢ 1 → A) → A
by_kind h = says_elim (says_exponent h)

-- ---- kind 1

module _ (h : Header) (e : h.kind ≡ 1) where
  -- a slot of the response is k + c·x mod q
  pub response_coordinate_exponent : (k c x : ℕ) → response_coordinate h k c x ≡ (k + c * x) % h.order
  unfolding response_coordinate
  response_coordinate_exponent k c x = rw (exponent_kind h e)

  -- the domain's operation is the sum mod q
  pub combine_exponent : (x y : ℕ) → combine h x y ≡ (x + y) % h.order
  unfolding combine
  combine_exponent x y = rw (exponent_kind h e)

  -- a slot of the extractor's formula is b(r − r') mod q
  pub slot_formula_exponent : (z : ℕ) (a b : ℤ) (r r' : ℕ)
      → slot_formula h z a b r r' ≡ residue h.order (b *ℤ (pos r -ℤ pos r'))
  unfolding slot_formula
  slot_formula_exponent z a b r r' = rw (exponent_kind h e)

module _ (table : Table) (e : table.header.kind ≡ 1) where
  -- a row of [x] is the product of the entries' powers
  pub row_image_exponent : (x : List ℕ) (i : ℕ)
      → row_image table x i ≡ product table.header.columns (λ j. entry table i j ^ get_or x j 0) % table.header.modulus
  unfolding row_image
  row_image_exponent x i = rw (exponent_kind table.header e)

-- ---- kind 2

module _ (h : Header) (e : h.kind ≢ 1) where
  -- a slot of the response is k·x^c mod m
  pub response_coordinate_root : (k c x : ℕ) → response_coordinate h k c x ≡ k * x ^ c % h.modulus
  unfolding response_coordinate
  response_coordinate_root k c x = rw (root_kind h e)

  -- the domain's operation is the product mod m
  pub combine_root : (x y : ℕ) → combine h x y ≡ x * y % h.modulus
  unfolding combine
  combine_root x y = rw (root_kind h e)

  -- a slot of the extractor's formula is z^a · (r/r')^b mod m
  pub slot_formula_root : (z : ℕ) (a b : ℤ) (r r' : ℕ)
      → slot_formula h z a b r r'
      ≡ power h.modulus z a * power h.modulus (r * inverse h.modulus r' % h.modulus) b % h.modulus
  unfolding slot_formula
  slot_formula_root z a b r r' = rw (root_kind h e)

module _ (table : Table) (e : table.header.kind ≢ 1) where
  -- a row of [x] is the slot's power
  pub row_image_root : (x : List ℕ) (i : ℕ) → row_image table x i ≡ get_or x i 0 ^ table.header.order % table.header.modulus
  unfolding row_image
  row_image_root x i = rw (root_kind table.header e)
