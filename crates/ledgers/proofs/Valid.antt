-- The product statement over group elements is Valid.
-- Assumes nothing.
use Prim.Native.Nat.{ℕ, zero, suc, ◌<◌, ◌≤◌, ◌∣◌}
use mathlib.Core.Path.{refl}
use mathlib.Core.Logic.{inl}
use mathlib.Core.List.{[], ◌∷◌}
use native.Mathlib.Nat.{mod-eq-zero_of_dvd}
use native.Mathlib.Omega.{arith}
use lib.ListN.{get_or}
use Rattle.lists.specs.Places.{pad8}
use Rattle.patterns.specs.Pattern.{digit, header_for, made_for}
use Rattle.patterns.specs.Table.{kind_of, made, pattern_of, patterns}
use Rattle.patterns.proofs.Sheets.{entry_of_element, made_entry}
use Rattle.sigma.specs.Element.{Element}
use Rattle.sigma.specs.Instance.{entry, statement_at, table_of}
use Rattle.sigma.specs.Valid.{Valid}
use Rattle.ledgers.specs.Ledger.{product_of}
use Rattle.ledgers.specs.Refusals.{product_header}
use Rattle.ledgers.specs.RunsWhere.{RightBase}
use Rattle.ledgers.specs.declared.Base.{Base}
use Rattle.ledgers.proofs.Right.{in_group}

-- what 5, 6, 8 and 10 ask of what the lines share
pub record Sound (base : Base) : Type 0 where
  pub modulus : 3 ≤ base.modulus
  pub order : 2 ≤ base.order
  pub some_challenges : 2 ≤ base.challenges
  pub few_challenges : base.challenges ≤ 65536
  pub no_divisor : (d : ℕ) → 2 ≤ d → d < base.challenges → ¬ (d ∣ base.order)
  pub g : Element (product_header base) base.g
  pub h : Element (product_header base) base.h

pub sound : (base : Base) → RightBase base → Sound base
sound base (large, ordered, some, few, divisor, g, h) = record {
  modulus = large;
  order = ordered;
  some_challenges = some;
  few_challenges = few;
  no_divisor = λ d from below divides. divisor d from below (mod-eq-zero_of_dvd d divides);
  g = (in_group base base.g).1 g;
  h = (in_group base base.h).1 h;
}

module _ (base : Base) (right : Sound base) (A B E : ℕ) (a : Element (product_header base) A) (b : Element (product_header base) B)
    (e : Element (product_header base) E) where
  -- the public values g, h and B are group elements
  values_in : (k : ℕ) → k < 3 → Element (product_header base) (get_or (base.g ∷ base.h ∷ B ∷ []) k 0)
  values_in zero inside = right.g
  values_in (suc zero) inside = right.h
  values_in (suc (suc zero)) inside = b
  values_in (suc (suc (suc k))) inside = absurd (omega arith)

  -- no digit of pattern 5 is above 3
  digits_low : (i j : ℕ) → i < 2 → j < 3 → digit (pattern_of 5) i j ≤ 3
  unfolding digit pattern_of patterns
  digits_low zero zero inside within = omega arith
  digits_low zero (suc zero) inside within = omega arith
  digits_low zero (suc (suc zero)) inside within = omega arith
  digits_low (suc zero) zero inside within = omega arith
  digits_low (suc zero) (suc zero) inside within = omega arith
  digits_low (suc zero) (suc (suc zero)) inside within = omega arith
  digits_low zero (suc (suc (suc j))) inside within = absurd (omega arith)
  digits_low (suc zero) (suc (suc (suc j))) inside within = absurd (omega arith)
  digits_low (suc (suc i)) j inside within = absurd (omega arith)

  -- so each entry is a group element
  entry_element : (i j : ℕ) → i < 2 → j < 3 → Element (product_header base) (entry (table_of (product_of base A B E)) i j)
  unfolding product_of made kind_of pattern_of patterns header_for
  entry_element i j inside within =
      rw (made_entry 1 (pattern_of 5) base.modulus base.order base.challenges (base.g ∷ base.h ∷ B ∷ []) (A ∷ E ∷ []) refl i j inside within)
      (entry_of_element (product_header base) (base.g ∷ base.h ∷ B ∷ []) (digit (pattern_of 5) i j) right.modulus values_in (digits_low i j inside within))

  -- the statement is A and E
  statement_element : (i : ℕ) → i < 2 → Element (product_header base) (statement_at (product_of base A B E) i)
  unfolding product_of made made_for statement_at pad8
  statement_element zero inside = a
  statement_element (suc zero) inside = e
  statement_element (suc (suc i)) inside = absurd (omega arith)

  -- the instance is Valid
  pub product_valid : Valid (product_of base A B E)
  unfolding product_of made made_for header_for kind_of pattern_of patterns
  product_valid = record {
    table = record {
      kind = inl refl;
      modulus = right.modulus;
      order = right.order;
      some_row = omega arith;
      few_rows = omega arith;
      some_column = omega arith;
      few_columns = omega arith;
      square = λ two. absurd (omega (arith, two));
      some_challenges = right.some_challenges;
      few_challenges = right.few_challenges;
      no_divisor = right.no_divisor;
      entries = λ one i j inside within. entry_element i j inside within;
    };
    statement = λ i inside. statement_element i inside;
  }
