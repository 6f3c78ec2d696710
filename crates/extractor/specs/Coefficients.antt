-- Natural numbers for the two integers of the extractor's formula (01, "A round"), where the first challenge is the larger by
-- delta and ℓ · (−a) + delta · b = 1, and what the formula's powers and quotients ask for.
-- Assumes nothing.
use Rattle.std.specs.Prelude.{ℕ, ◌*◌, ◌/◌, ◌≤◌, ◌<◌, ◌≡◌, ◌≢◌, List, pos, neg_ℤ, get_or}
use Rattle.types.specs.declared.Header.{Header}
use Rattle.lists.specs.Places.{tabulate}
use Rattle.numbers.specs.Gcd.{gcd}
use Rattle.numbers.specs.Inverse.{inverse}
use Rattle.sigma.specs.Element.{Element, Coordinate}
use Rattle.sigma.specs.Extractor.{slot_formula}

-- a, how often ℓ goes into delta · b, where b inverts delta modulo ℓ
unfoldable pub left_coefficient : ℕ → ℕ → ℕ
left_coefficient order delta = delta * inverse order delta / order

-- what a slot's powers and quotient ask for
pub record SlotFits (h : Header) (z a r s : ℕ) : Type 0 where
  pub modulus : 1 < h.modulus
  pub order : 0 < h.order
  pub exponent : a ≤ h.order
  pub base : h.kind ≢ 1 → Element h z
  pub dividend : Coordinate h r
  pub divisor : Coordinate h s

-- the slots of the formula with the exponents −a and b
unfoldable pub slot_formulas : Header → List ℕ → ℕ → ℕ → List ℕ → List ℕ → List ℕ
slot_formulas h statement a b r s =
    tabulate h.columns (λ j. slot_formula h (get_or statement j 0) (neg_ℤ (pos a)) (pos b) (get_or r j 0) (get_or s j 0))

-- what the powers and quotients of all slots ask for in kind 2
pub record RootsFit (h : Header) (statement : List ℕ) (a : ℕ) (s : List ℕ) : Type 0 where
  pub modulus : 1 < h.modulus
  pub order : 0 < h.order
  pub columns : h.columns ≤ 8
  pub exponent : a ≤ h.order
  pub kind : h.kind ≢ 1
  pub bases : (j : ℕ) → j < h.columns → Element h (get_or statement j 0)
  pub divisors : (j : ℕ) → j < h.columns → Element h (get_or s j 0)

-- what the formula asks for: delta has an inverse modulo ℓ, and each slot's powers and quotient can be made
pub record WitnessFits (h : Header) (statement : List ℕ) (delta : ℕ) (r s : List ℕ) : Type 0 where
  pub modulus : 1 < h.modulus
  pub order : 1 < h.order
  pub columns : h.columns ≤ 8
  pub below : delta < h.order
  pub coprime : gcd delta h.order ≡ 1
  pub base : h.kind ≢ 1 → (j : ℕ) → j < h.columns → Element h (get_or statement j 0)
  pub dividends : (j : ℕ) → j < h.columns → Coordinate h (get_or r j 0)
  pub divisors : (j : ℕ) → j < h.columns → Coordinate h (get_or s j 0)
