-- The conditions of 01's refusals on values ("Turned back", 4 to 8, 10, 11 and 14 to 20), as facts, and which of them each
-- call asks, in order.
-- Assumes nothing.
use Rattle.std.specs.Prelude.{ℕ, ◌<◌, ◌≤◌, ◌≡◌, ◌⊎◌, ◌≢◌, List, [], ◌∷◌, get_or}
use Rattle.std.specs.Int.{◌∣◌}
use Rattle.types.specs.declared.Header.{Header}
use Rattle.types.specs.declared.Round.{Round}
use Rattle.rules.specs.Condition.{Condition, ◌if◌}
use Rattle.sigma.specs.Element.{Element, Coordinate}
use Rattle.sigma.specs.Instance.{Instance, table_of, entry}
use Rattle.sigma.specs.Meaning.{Holds}
use Rattle.sigma.specs.Reads.{Differ}

-- the modulus is below 3
abbrev pub Refusal5 : Header → Type 0
Refusal5 h = h.modulus < 3

-- ℓ is below 2
abbrev pub Refusal6 : Header → Type 0
Refusal6 h = h.order < 2

-- K is below 2 or above 65,536, or some d with 2 ≤ d < K divides ℓ
abbrev pub Refusal8 : Header → Type 0
Refusal8 h =
    (h.challenges < 2) ⊎ (65536 < h.challenges) ⊎
    ((d : ℕ) × (2 ≤ d) × (d < h.challenges) × (d ∣ h.order))

-- some value among the first n is no group element
abbrev pub SomeNonElement : Header → ℕ → List ℕ → Type 0
SomeNonElement h n vs = (i : ℕ) × (i < n) × (¬ Element h (get_or vs i 0))

-- some entry is no group element; only kind 1 has entries
abbrev pub Refusal10 : Instance → Type 0
Refusal10 inst =
    (inst.header.kind ≡ 1) × ((i : ℕ) × (j : ℕ) × (i < inst.header.rows) × (j < inst.header.columns) ×
    (¬ Element inst.header (entry (table_of inst) i j)))

-- some statement value is no group element
abbrev pub Refusal11 : Instance → Type 0
Refusal11 inst = SomeNonElement inst.header inst.header.rows inst.statement

-- some value of the commitment is no group element
abbrev pub Refusal14 : Instance → List ℕ → Type 0
Refusal14 inst t = SomeNonElement inst.header inst.header.rows t

-- the challenge is K or more
abbrev pub Refusal15 : Instance → ℕ → Type 0
Refusal15 inst c = inst.header.challenges ≤ c

-- some slot of a witness, nonce or response is no domain slot
abbrev pub Refusal16 : Instance → List ℕ → Type 0
Refusal16 inst x = (j : ℕ) × (j < inst.header.columns) × (¬ Coordinate inst.header (get_or x j 0))

-- the fixed fields; 7: rows or columns lie outside 1 to 8, or differ in kind 2
abbrev pub header_conditions : Header → List Condition
header_conditions h =
    (4 if (¬ ((h.kind ≡ 1) ⊎ (h.kind ≡ 2)))) ∷
    (5 if Refusal5 h) ∷
    (6 if Refusal6 h) ∷
    (7 if ((h.rows < 1) ⊎ (8 < h.rows) ⊎ (h.columns < 1) ⊎ (8 < h.columns) ⊎ ((h.kind ≡ 2) × (h.rows ≢ h.columns)))) ∷
    (8 if Refusal8 h) ∷ []

-- the entries and the statement
abbrev pub element_conditions : Instance → List Condition
element_conditions inst = (10 if Refusal10 inst) ∷ (11 if Refusal11 inst) ∷ []

-- judging a round
abbrev pub judge_conditions : Instance → Round → List Condition
judge_conditions inst round =
    (14 if Refusal14 inst round.commitment) ∷
    (15 if Refusal15 inst round.challenge) ∷
    (16 if Refusal16 inst round.response) ∷ []

-- simulating a commitment
abbrev pub simulate_conditions : Instance → ℕ → List ℕ → List Condition
simulate_conditions inst c r = (15 if Refusal15 inst c) ∷ (16 if Refusal16 inst r) ∷ []

-- extracting a witness: each number is asked of both rounds before the next
abbrev pub extract_conditions : Instance → Round → Round → List Condition
extract_conditions inst first second =
    (14 if (Refusal14 inst first.commitment ⊎ Refusal14 inst second.commitment)) ∷
    (15 if (Refusal15 inst first.challenge ⊎ Refusal15 inst second.challenge)) ∷
    (16 if (Refusal16 inst first.response ⊎ Refusal16 inst second.response)) ∷
    (18 if Differ inst.header.rows first.commitment second.commitment) ∷
    (19 if (first.challenge ≡ second.challenge)) ∷
    (20 if ((¬ Holds inst first) ⊎ (¬ Holds inst second))) ∷ []
