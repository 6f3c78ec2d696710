-- Sheets from linear forms (02, card 10; Maurer 2015, section 6.5): the entries made of generators and coefficients, and the maker
-- (refusals 5 to 8, 29, 30, 10, 11 and 22).
-- Assumes nothing.
use Rattle.std.specs.Prelude.{ℕ, ◌+◌, ◌*◌, ◌%◌, ◌^◌, Bool, not, ◌||◌, List, [], ◌∷◌, eqb, leb, ltb, get_or, length}
use Rattle.lists.specs.Places.{eight_by_eight, pad8}
use Rattle.numbers.specs.Product.{product}
use Rattle.numbers.specs.Search.{any}
use Rattle.rules.specs.Call.{answer}
use Rattle.rules.specs.Rule.{Rule, ◌when◌}
use Rattle.formats.specs.Encode.{sheet_of}
use Rattle.formats.specs.Sheet.{sheet_length}
use Rattle.formats.specs.Write.{Writing, short, writing_at_start}
use Rattle.sigma.specs.Admission.{bad_count, bad_modulus, bad_order, bad_size, bad_statement}
use Rattle.sigma.specs.Element.{some_non_element}
use Rattle.sigma.specs.Instance.{Instance}
use Rattle.linear_forms.specs.LinearPlan.{LinearPlan}
use Rattle.linear_forms.specs.Refusals.{linear_header}

-- the coefficient of row i, generator g and column j: row, then generator, then column
unfoldable pub coefficient : LinearPlan → ℕ → ℕ → ℕ → ℕ
coefficient p i g j = get_or p.coefficients ((i * length p.generators + g) * p.columns + j) 0

-- entry (i, j): the product over the generators of generator^coefficient mod m
unfoldable pub linear_entry : LinearPlan → ℕ → ℕ → ℕ
linear_entry p i j = product (length p.generators) (λ g. get_or p.generators g 0 ^ coefficient p i g j) % p.modulus

-- the values of the sheet
unfoldable pub linear_instance : LinearPlan → Instance
linear_instance p =
    record {
      header = linear_header p;
      entries = eight_by_eight p.rows p.columns (linear_entry p);
      statement = pad8 0 p.statement;
    }

-- there are not 1 to 8 generators, not s × generators × n coefficients, or not s statement values (29)
unfoldable pub bad_counts : LinearPlan → Bool
bad_counts p =
    ltb (length p.generators) 1 || ltb 8 (length p.generators) ||
    not (eqb (length p.coefficients) (p.rows * length p.generators * p.columns)) ||
    not (eqb (length p.statement) p.rows)

-- some coefficient is q or more (30)
unfoldable pub bad_coefficient : LinearPlan → Bool
bad_coefficient p = any (length p.coefficients) (λ k. leb p.order (get_or p.coefficients k 0))

-- the maker's rules; 10 is for a generator, whether or not a coefficient uses it
unfoldable pub linear_rules : LinearPlan → List ℕ → List Rule
linear_rules p buffer =
    (5 when bad_modulus (linear_header p)) ∷
    (6 when bad_order (linear_header p)) ∷
    (7 when bad_size (linear_header p)) ∷
    (8 when bad_count (linear_header p)) ∷
    (29 when bad_counts p) ∷
    (30 when bad_coefficient p) ∷
    (10 when some_non_element (linear_header p) (length p.generators) p.generators) ∷
    (11 when bad_statement (linear_instance p)) ∷
    (22 when short buffer (sheet_length (linear_header p))) ∷ []

-- the maker of sheets from linear forms
unfoldable pub make_linear : LinearPlan → List ℕ → Writing
make_linear p buffer = answer (writing_at_start (linear_rules p buffer) (sheet_of (linear_instance p)) buffer)
