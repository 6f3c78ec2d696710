-- The conditions of the linear maker's refusals as facts (02, card 10; 01, "Turned back", 5 to 8, 10, 11 and 22), in order.
-- Assumes nothing.
use Rattle.std.specs.Prelude.{ℕ, ◌+◌, ◌*◌, ◌<◌, ◌≤◌, ◌⊎◌, ◌≢◌, List, [], ◌∷◌, get_or, length}
use Rattle.types.specs.declared.Header.{Header}
use Rattle.rules.specs.Condition.{Condition, ◌if◌}
use Rattle.sigma.specs.Refusals.{Refusal5, Refusal6, Refusal8, SomeNonElement}
use Rattle.linear_forms.specs.LinearPlan.{LinearPlan}

-- the fixed fields of a plan's sheet, which is of kind 1
abbrev pub linear_header : LinearPlan → Header
linear_header p =
    record {
      kind = 1;
      modulus = p.modulus;
      order = p.order;
      challenges = p.challenges;
      rows = p.rows;
      columns = p.columns;
    }

-- there are not 1 to 8 generators, not s × generators × n coefficients, or not s statement values
abbrev pub Refusal29 : LinearPlan → Type 0
Refusal29 p =
    (length p.generators < 1) ⊎ (8 < length p.generators) ⊎
    (length p.coefficients ≢ p.rows * length p.generators * p.columns) ⊎ (length p.statement ≢ p.rows)

-- some coefficient is q or more
abbrev pub Refusal30 : LinearPlan → Type 0
Refusal30 p = (k : ℕ) × (k < length p.coefficients) × (p.order ≤ get_or p.coefficients k 0)

-- the maker; 7 is for rows or columns outside 1 to 8, 10 for a generator that is no group element, used by a coefficient or not, 11
-- for a statement value that is none, and 22 for a buffer that is shorter than the sheet
abbrev pub linear_conditions : LinearPlan → List ℕ → List Condition
linear_conditions p buffer =
    (5 if Refusal5 (linear_header p)) ∷
    (6 if Refusal6 (linear_header p)) ∷
    (7 if ((p.rows < 1) ⊎ (8 < p.rows) ⊎ (p.columns < 1) ⊎ (8 < p.columns))) ∷
    (8 if Refusal8 (linear_header p)) ∷
    (29 if Refusal29 p) ∷
    (30 if Refusal30 p) ∷
    (10 if SomeNonElement (linear_header p) (length p.generators) p.generators) ∷
    (11 if SomeNonElement (linear_header p) p.rows p.statement) ∷
    (22 if (length buffer < 20 + 4 * (p.rows * p.columns) + 4 * p.rows)) ∷ []
