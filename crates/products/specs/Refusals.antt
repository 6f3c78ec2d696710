-- The conditions of the combiner's refusals as facts (02, card 6), and which of them each call asks, in order.
-- Assumes nothing.
use Rattle.std.specs.Prelude.{ℕ, ◌%◌, ◌<◌, ◌⊎◌, ◌≢◌, List, [], ◌∷◌, ◌++◌, get_or}
use Rattle.numbers.specs.Product.{product}
use Rattle.rules.specs.Condition.{Condition, ◌if◌}
use Rattle.formats.specs.Refusals.{shape_conditions}
use Rattle.formats.specs.Sheet.{instance_of}
use Rattle.sigma.specs.Instance.{Instance, statement_at}
use Rattle.sigma.specs.Refusals.{Refusal10, Refusal11, Refusal14, Refusal16, SomeNonElement}
use Rattle.products.specs.Team.{part}

-- the images do not multiply to the statement: some row's product is another value
abbrev pub Refusal28 : Instance → ℕ → List (List ℕ) → Type 0
Refusal28 inst count images =
    (i : ℕ) × (i < inst.header.rows) ×
    (product count (λ p. get_or (part images p) i 0) % inst.header.modulus ≢ statement_at inst i)

-- the sheet, the team and the images: 27 for a team outside 2 to 8, and 11 for a statement or an image
abbrev pub team_conditions : List ℕ → ℕ → List (List ℕ) → List Condition
team_conditions sheet count images =
    shape_conditions sheet ++
    (27 if ((count < 2) ⊎ (8 < count))) ∷
    (10 if Refusal10 (instance_of sheet)) ∷
    (11 if (Refusal11 (instance_of sheet) ⊎ ((p : ℕ) × (p < count) ×
    SomeNonElement (instance_of sheet).header (instance_of sheet).header.rows (part images p)))) ∷ []

-- multiplying commitments: 14 is for a value of any player's commitment
abbrev pub multiply_conditions : List ℕ → ℕ → List (List ℕ) → List (List ℕ) → List Condition
multiply_conditions sheet count images commitments =
    team_conditions sheet count images ++
    (14 if ((p : ℕ) × (p < count) × Refusal14 (instance_of sheet) (part commitments p))) ∷
    (28 if Refusal28 (instance_of sheet) count images) ∷ []

-- joining responses: 16 is for a slot of any player's response
abbrev pub join_conditions : List ℕ → ℕ → List (List ℕ) → List (List ℕ) → List Condition
join_conditions sheet count images responses =
    team_conditions sheet count images ++
    (16 if ((p : ℕ) × (p < count) × Refusal16 (instance_of sheet) (part responses p))) ∷
    (28 if Refusal28 (instance_of sheet) count images) ∷ []
