-- The rules of what all lines share, behind those of the fixed fields: kind, rows and columns are right.
-- Assumes nothing.
use Prim.Native.Nat.{ℕ, ◌≤◌, ◌<◌}
use mathlib.Core.Path.{◌≡◌, refl, sym, ap, ◌∙◌}
use mathlib.Core.Logic.{◌≢◌}
use mathlib.Core.List.{List, [], ◌∷◌, ◌++◌}
use native.Mathlib.Omega.{arith}
use borrow.Author.Tests.{ltb-false}
use Rattle.rules.specs.Rule.{Rule, ◌when◌, lowest}
use Rattle.rules.proofs.Lowest.{clear_lowest, lowest_earlier, lowest_later_zero}
use Rattle.types.specs.declared.Header.{Header}
use Rattle.sigma.specs.Admission.{bad_count, bad_kind, bad_modulus, bad_order, bad_size, header_rules}
use Rattle.sigma.specs.Element.{some_non_element}
use Rattle.ledgers.specs.Check.{base_rules}
use Rattle.ledgers.specs.Refusals.{product_header}
use Rattle.ledgers.specs.declared.Base.{Base}

-- the rules of m, q and K
abbrev field_rules : Base → List Rule
field_rules base =
    (5 when bad_modulus (product_header base)) ∷ (6 when bad_order (product_header base)) ∷ (8 when bad_count (product_header base)) ∷ []

-- the rule of g and h
abbrev pub value_rules : Base → List Rule
value_rules base = (10 when some_non_element (product_header base) 2 (base.g ∷ base.h ∷ [])) ∷ []

-- 4 and 7 do not apply
fields_are : (base : Base) → lowest (header_rules (product_header base)) ≡ lowest (field_rules base)
unfolding header_rules bad_kind bad_size lowest
fields_are base = refl

module _ (base : Base) (h : Header) (fields : h ≡ product_header base) (n : ℕ) (number : n ≡ lowest (header_rules h)) where
  -- so the number of the fixed fields is that of m, q and K
  field_number : n ≡ lowest (field_rules base)
  field_number = number ∙ ap (λ (k : Header). lowest (header_rules k)) fields ∙ fields_are base

  -- where it is not 0, it is the number
  pub base_earlier : n ≢ 0 → n ≡ lowest (base_rules base)
  unfolding base_rules
  base_earlier some =
      let above : 0 < lowest (field_rules base) = omega (arith, some, field_number) in
      field_number ∙ sym (lowest_earlier (field_rules base) (value_rules base) above)

  -- else it is that of g and h
  pub base_later : n ≡ 0 → lowest (value_rules base) ≡ lowest (base_rules base)
  unfolding base_rules
  base_later none = sym (lowest_later_zero (field_rules base) (value_rules base) tt (sym field_number ∙ none))

  -- and m is above 0
  pub base_modulus : n ≡ 0 → 0 < h.modulus
  unfolding bad_modulus
  base_modulus none =
      let clear = clear_lowest (field_rules base) tt (sym field_number ∙ none) in
      let large : 3 ≤ base.modulus = ltb-false base.modulus 3 clear.0 in
      let same : h.modulus ≡ base.modulus = ap (λ (k : Header). k.modulus) fields in
      omega arith

-- where none of the rules applies, m is above 0
pub shared_modulus : (base : Base) → lowest (base_rules base) ≡ 0 → 0 < base.modulus
unfolding base_rules bad_modulus
shared_modulus base none =
    let clear = clear_lowest (field_rules base ++ value_rules base) tt none in
    let large : 3 ≤ base.modulus = ltb-false base.modulus 3 clear.0 in
    omega arith

-- other rules behind them count where they give 0
pub shared_later : (base : Base) (rules : List Rule) → lowest (base_rules base) ≡ 0 → lowest (base_rules base ++ rules) ≡ lowest rules
unfolding base_rules
shared_later base rules none = lowest_later_zero (field_rules base ++ value_rules base) rules tt none
