-- The conditions of the OR proof's refusals as facts (02, card 4), and which of them each call asks, in order.
-- Assumes nothing.
use Rattle.std.specs.Prelude.{ℕ, ◌<◌, ◌≡◌, ◌⊎◌, ◌≢◌, List, [], ◌∷◌, ◌++◌}
use Rattle.types.specs.declared.ProverPhase.TheVariants.{New, Committed}
use Rattle.disjunctions.specs.declared.OrProver.{OrProver}
use Rattle.disjunctions.specs.declared.OrRound.{OrRound}
use Rattle.lists.specs.Places.{pad8}
use Rattle.rules.specs.Condition.{Condition, ◌if◌}
use Rattle.rules.specs.Either.{either_conditions}
use Rattle.formats.specs.Refusals.{load_conditions}
use Rattle.formats.specs.Sheet.{instance_of}
use Rattle.sigma.specs.Image.{image, row_image}
use Rattle.sigma.specs.Instance.{Instance, statement_at, table_of}
use Rattle.sigma.specs.Meaning.{Holds}
use Rattle.sigma.specs.Reads.{Differ}
use Rattle.sigma.specs.Refusals.{Refusal14, Refusal15, Refusal16}
use Rattle.sigma.specs.Simulator.{simulated}
use Rattle.disjunctions.specs.Prover.{other, own}
use Rattle.disjunctions.specs.Round.{first_round, second_round}

-- two sheets: 2 to 11 of either, and 26 for different counts K
abbrev pub pair_conditions : List ℕ → List ℕ → List Condition
pair_conditions s s' =
    either_conditions (load_conditions s) (load_conditions s') ++
    (26 if ((instance_of s).header.challenges ≢ (instance_of s').header.challenges)) ∷ []

-- some value of one of a round's commitments is no group element of its sheet
abbrev pub Or14 : Instance → Instance → OrRound → Type 0
Or14 i j round = Refusal14 i round.commitment0 ⊎ Refusal14 j round.commitment1

-- c or c0 is K or more
abbrev pub Or15 : Instance → OrRound → Type 0
Or15 i round = Refusal15 i round.challenge ⊎ Refusal15 i round.challenge0

-- some slot of one of a round's responses is no domain slot of its sheet
abbrev pub Or16 : Instance → Instance → OrRound → Type 0
Or16 i j round = Refusal16 i round.response0 ⊎ Refusal16 j round.response1

-- the two sides of every row agree, in both sides of a round
abbrev pub OrHolds : Instance → Instance → OrRound → Type 0
OrHolds i j round = Holds i (first_round round) × Holds j (second_round i.header.challenges round)

-- judging a round
abbrev pub judge_or_conditions : Instance → Instance → OrRound → List Condition
judge_or_conditions i j round = (14 if Or14 i j round) ∷ (15 if Or15 i round) ∷ (16 if Or16 i j round) ∷ []

-- extracting: each number is asked of both rounds before the next
abbrev pub extract_or_conditions : Instance → Instance → OrRound → OrRound → List Condition
extract_or_conditions i j a b =
    (14 if (Or14 i j a ⊎ Or14 i j b)) ∷
    (15 if (Or15 i a ⊎ Or15 i b)) ∷
    (16 if (Or16 i j a ⊎ Or16 i j b)) ∷
    (18 if (Differ i.header.rows a.commitment0 b.commitment0 ⊎
    Differ j.header.rows a.commitment1 b.commitment1)) ∷
    (19 if (a.challenge ≡ b.challenge)) ∷
    (20 if ((¬ OrHolds i j a) ⊎ (¬ OrHolds i j b))) ∷ []

-- committing; 15 is for the simulated challenge, 16 for the nonce by its own sheet and the simulated response by the other
abbrev pub commit_or_conditions : Instance → Instance → OrProver → ℕ → List ℕ → ℕ → List ℕ → List Condition
commit_or_conditions i j p side k d r =
    (15 if Refusal15 i d) ∷
    (16 if (Refusal16 (own side i j) k ⊎ Refusal16 (other side i j) r)) ∷
    (21 if (p.phase ≢ New)) ∷ []

-- responding, the witness being one of the held side's sheet; 21: besides the state, the held side is neither 0 nor 1, a held value
-- is no slot or no challenge of its sheet, or the held values do not make both held commitments, 0 beyond s, in all eight places
abbrev pub respond_or_conditions : Instance → Instance → OrProver → ℕ → List ℕ → List Condition
respond_or_conditions i j p c x =
    (15 if Refusal15 i c) ∷
    (16 if Refusal16 (own p.side i j) x) ∷
    (17 if ((row : ℕ) × (row < (own p.side i j).header.rows) ×
    (row_image (table_of (own p.side i j)) x row ≢ statement_at (own p.side i j) row))) ∷
    (21 if ((p.phase ≢ Committed) ⊎ (1 < p.side) ⊎ Refusal16 (own p.side i j) p.nonce ⊎
    Refusal16 (other p.side i j) p.response ⊎ Refusal15 i p.challenge ⊎
    Differ 8 (pad8 0 (own p.side (image (table_of i) p.nonce) (simulated i p.challenge p.response))) p.commitment0 ⊎
    Differ 8 (pad8 0 (own p.side (simulated j p.challenge p.response) (image (table_of j) p.nonce))) p.commitment1)) ∷ []

-- dropping
abbrev pub drop_or_conditions : OrProver → List Condition
drop_or_conditions p = (21 if ((p.phase ≢ New) × (p.phase ≢ Committed))) ∷ []
