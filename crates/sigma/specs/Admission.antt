-- What a sheet's values must meet (01, "Turned back", 4 to 8, 10 and 11). Loader and writers share these rules.
-- Assumes nothing.
use Rattle.std.specs.Prelude.{ℕ, ◌-◌, ◌%◌, Bool, not, ◌&&◌, ◌||◌, List, [], ◌∷◌, eqb, ltb}
use Rattle.types.specs.declared.Header.{Header}
use Rattle.numbers.specs.Search.{find, any}
use Rattle.rules.specs.Rule.{Rule, ◌when◌}
use Rattle.sigma.specs.Instance.{Instance, table_of, is_exponent, entry}
use Rattle.sigma.specs.Element.{is_element, some_non_element}

-- the first d with 2 ≤ d < K that divides ℓ, and K where there is none (for a K of at least 2)
unfoldable pub first_divisor : ℕ → ℕ → ℕ
first_divisor order challenges = find (λ d. eqb (order % d) 0) 2 (challenges - 2)

-- the kind is neither 1 nor 2
unfoldable pub bad_kind : Header → Bool
bad_kind h = not (eqb h.kind 1 || eqb h.kind 2)

-- the modulus is below 3
unfoldable pub bad_modulus : Header → Bool
bad_modulus h = ltb h.modulus 3

-- ℓ is below 2
unfoldable pub bad_order : Header → Bool
bad_order h = ltb h.order 2

-- rows or columns lie outside 1 to 8, or differ in kind 2
unfoldable pub bad_size : Header → Bool
bad_size h =
    ltb h.rows 1 || ltb 8 h.rows || ltb h.columns 1 || ltb 8 h.columns ||
    (eqb h.kind 2 && not (eqb h.rows h.columns))

-- K is below 2 or above 65,536, or some d with 2 ≤ d < K divides ℓ
unfoldable pub bad_count : Header → Bool
bad_count h =
    ltb h.challenges 2 || ltb 65536 h.challenges ||
    ltb (first_divisor h.order h.challenges) h.challenges

-- some entry is no group element; a sheet of kind 2 has no entries
unfoldable pub bad_entries : Instance → Bool
bad_entries inst =
    is_exponent inst.header &&
    any inst.header.rows
    (λ i. any inst.header.columns (λ j. not (is_element inst.header (entry (table_of inst) i j))))

-- some statement value is no group element
unfoldable pub bad_statement : Instance → Bool
bad_statement inst = some_non_element inst.header inst.header.rows inst.statement

-- the rules of the fixed fields
unfoldable pub header_rules : Header → List Rule
header_rules h =
    (4 when bad_kind h) ∷ (5 when bad_modulus h) ∷ (6 when bad_order h) ∷ (7 when bad_size h) ∷ (8 when bad_count h) ∷ []

-- the rules of the entries and the statement
unfoldable pub element_rules : Instance → List Rule
element_rules inst = (10 when bad_entries inst) ∷ (11 when bad_statement inst) ∷ []
