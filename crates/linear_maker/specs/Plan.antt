-- The plan that the linear maker's inner functions are handed, its tests and its rows (02, card 10).
-- Assumes nothing.
use Rattle.std.specs.Prelude.{ℕ, ◌*◌, ◌≤◌, ◌<◌, ◌≡◌, List, [], ◌∷◌, length}
use Rattle.types.specs.declared.Header.{Header}
use Rattle.lists.specs.Places.{pad8, tabulate}
use Rattle.rules.specs.Rule.{Rule, ◌when◌}
use Rattle.sigma.specs.Element.{some_non_element}
use Rattle.linear_forms.specs.Linear.{bad_coefficient, bad_counts, linear_entry}
use Rattle.linear_forms.specs.LinearPlan.{LinearPlan, linear_plan}

-- the plan of fixed fields, generators, coefficients and a statement
abbrev pub plan_of : Header → List ℕ → List ℕ → List ℕ → LinearPlan
plan_of h generators coefficients statement =
    linear_plan h.modulus h.order h.challenges h.rows h.columns generators coefficients statement

-- the rules of the counts, the coefficients and the generators
unfoldable pub plan_rules : Header → List ℕ → List ℕ → List ℕ → List Rule
plan_rules h generators coefficients statement =
    (29 when bad_counts (plan_of h generators coefficients statement)) ∷
    (30 when bad_coefficient (plan_of h generators coefficients statement)) ∷
    (10 when some_non_element h (length generators) generators) ∷ []

-- row i of the entries, with 0 in the places beyond the columns
unfoldable pub linear_row : LinearPlan → ℕ → List ℕ
linear_row p i = pad8 0 (tabulate p.columns (linear_entry p i))

-- the modulus is above 1, there are at most eight rows and columns, and there is a coefficient for each row, generator and column
pub record Counted (h : Header) (generators coefficients : List ℕ) : Type 0 where
  pub modulus : 1 < h.modulus
  pub few_rows : h.rows ≤ 8
  pub few_columns : h.columns ≤ 8
  pub counted : length coefficients ≡ h.rows * length generators * h.columns
