-- Peggy's calls by parts: only the outermost function has the whole session, and the others are handed what they read of it.
-- Assumes nothing.
use Rattle.std.specs.Prelude.{ℕ, List, [], ◌∷◌, Result, Ok, Err}
use Rattle.types.specs.declared.Memory.{Memory}
use Rattle.types.specs.declared.Prover.{Prover}
use Rattle.types.specs.declared.ProverPhase.TheVariants.{Committed, Answered}
use Rattle.types.specs.declared.ProverStep.{ProverStep}
use Rattle.lists.specs.Places.{zeros8}
use Rattle.rules.specs.Rule.{Rule, ◌when◌}
use Rattle.refusals.specs.Number.{number}
use Rattle.refusals.specs.declared.Refusal.{Refusal}
use Rattle.runs.specs.Memory.{is_full, is_listed, listing}
use Rattle.runs.specs.Prover.{handed_back}
use Rattle.prover.specs.declared.Committing.{Committing}
use Rattle.prover.specs.declared.Held.{Held}

-- the session that holds these, with a memory
abbrev pub prover_with : Held → Memory → Prover
prover_with held m = record { phase = held.phase; nonce = held.nonce; commitment = held.commitment; memory = m }

-- the rules of the list of answered commitments
unfoldable pub list_rules : Memory → List ℕ → List Rule
list_rules m t = (32 when is_listed m t) ∷ (33 when is_full m) ∷ []

-- what committing answers on a session: the nonce and the commitment are stored
unfoldable pub committed_step : Prover → Result Committing Refusal → ProverStep
committed_step p (Ok told) =
    record {
      refusal = 0;
      session = record { phase = Committed; nonce = told.nonce; commitment = told.commitment; memory = p.memory };
      values = told.commitment;
    }
committed_step p (Err refusal) = handed_back p (number refusal)

-- what responding answers on a session: the nonce is set to zeros and the commitment listed
unfoldable pub answered_step : Prover → Result (List ℕ) Refusal → ProverStep
answered_step p (Ok values) =
    record {
      refusal = 0;
      session = record { phase = Answered; nonce = zeros8; commitment = p.commitment; memory = listing p.commitment p.memory };
      values = values;
    }
answered_step p (Err refusal) = handed_back p (number refusal)
