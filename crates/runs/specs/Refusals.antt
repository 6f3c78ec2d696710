-- The conditions of 01's refusal 21, and of 32 to 34 (02, card 13), as facts, and which conditions each call on a session asks, in order.
-- Assumes nothing.
use Rattle.std.specs.Prelude.{ℕ, ◌<◌, ◌≤◌, ◌≡◌, ◌⊎◌, ◌≢◌, List, [], ◌∷◌}
use Rattle.types.specs.declared.Prover.{Prover}
use Rattle.types.specs.declared.ProverPhase.TheVariants.{New, Committed}
use Rattle.types.specs.declared.Verifier.{Verifier}
use Rattle.types.specs.declared.VerifierPhase.TheVariants.{Waiting, Holding, Asked}
use Rattle.lists.specs.Places.{pad8}
use Rattle.rules.specs.Condition.{Condition, ◌if◌}
use Rattle.sigma.specs.Image.{row_image, image}
use Rattle.sigma.specs.Instance.{Instance, table_of, statement_at}
use Rattle.sigma.specs.Reads.{Agree, Differ}
use Rattle.sigma.specs.Refusals.{Refusal14, Refusal15, Refusal16}
use Rattle.runs.specs.Memory.{listed_at, saved_at}

-- committing
abbrev pub commit_conditions : Instance → Prover → List ℕ → List Condition
commit_conditions inst p k = (16 if Refusal16 inst k) ∷ (21 if (p.phase ≢ New)) ∷ []

-- responding; 17: the witness's image is not the statement; 21: besides the state, a held nonce slot is no domain slot, or the
-- nonce's image, 0 beyond s, is not the held commitment in all eight places; 32: that commitment stands, in all eight places, among
-- those that were answered, of which 64 at most are looked at; 33: these are 64 or more
abbrev pub respond_conditions : Instance → Prover → ℕ → List ℕ → List Condition
respond_conditions inst p c x =
    (15 if Refusal15 inst c) ∷
    (16 if Refusal16 inst x) ∷
    (17 if ((i : ℕ) × (i < inst.header.rows) × (row_image (table_of inst) x i ≢ statement_at inst i))) ∷
    (21 if ((p.phase ≢ Committed) ⊎ Refusal16 inst p.nonce ⊎
    Differ 8 (pad8 0 (image (table_of inst) p.nonce)) p.commitment)) ∷
    (32 if ((i : ℕ) × (i < 64) × (i < p.memory.count) × Agree 8 (listed_at p.memory i) p.commitment)) ∷
    (33 if (64 ≤ p.memory.count)) ∷ []

-- dropping
abbrev pub drop_conditions : Prover → List Condition
drop_conditions p = (21 if ((p.phase ≢ New) × (p.phase ≢ Committed))) ∷ []

-- saving; 34: the name is outside 0 to 7
abbrev pub save_conditions : ℕ → List Condition
save_conditions name = (34 if (8 ≤ name)) ∷ []

-- returning; 34: likewise, or nothing was saved under the name
abbrev pub return_conditions : Prover → ℕ → List Condition
return_conditions p name = (34 if ((8 ≤ name) ⊎ ((saved_at p.memory name).kept ≡ 0))) ∷ []

-- Vic's commitment
abbrev pub take_commitment_conditions : Instance → Verifier → List ℕ → List Condition
take_commitment_conditions inst v t = (14 if Refusal14 inst t) ∷ (21 if (v.phase ≢ Waiting)) ∷ []

-- Vic's challenge; 21: besides the state, a held commitment value is no group element
abbrev pub take_challenge_conditions : Instance → Verifier → ℕ → List Condition
take_challenge_conditions inst v c =
    (15 if Refusal15 inst c) ∷ (21 if ((v.phase ≢ Holding) ⊎ Refusal14 inst v.commitment)) ∷ []

-- Vic's response; 21: likewise, or the held challenge is K or more
abbrev pub take_response_conditions : Instance → Verifier → List ℕ → List Condition
take_response_conditions inst v r =
    (16 if Refusal16 inst r) ∷
    (21 if ((v.phase ≢ Asked) ⊎ Refusal14 inst v.commitment ⊎ Refusal15 inst v.challenge)) ∷ []
