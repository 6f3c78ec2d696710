-- Saving Peggy's session under a name and returning to it (02, card 13; refusal 34). Neither takes a sheet.
-- Assumes nothing.
use Rattle.std.specs.Prelude.{ℕ, cond, [], ◌∷◌, eqb, leb, set}
use Rattle.types.specs.declared.Memory.{Memory}
use Rattle.types.specs.declared.Prover.{Prover}
use Rattle.types.specs.declared.ProverPhase.{ProverPhase}
use Rattle.types.specs.declared.ProverPhase.TheVariants.{New, Committed, Answered, Dropped}
use Rattle.types.specs.declared.ProverStep.{ProverStep}
use Rattle.types.specs.declared.Saved.{Saved}
use Rattle.lists.specs.Places.{zeros8}
use Rattle.rules.specs.Call.{Call, answer}
use Rattle.rules.specs.Rule.{◌when◌}
use Rattle.runs.specs.Memory.{never_saved, saved_at}
use Rattle.runs.specs.Prover.{handed_back, prover_state}

-- the state of a number, Dropped for a number that is no state's
unfoldable pub prover_phase : ℕ → ProverPhase
prover_phase n = cond (eqb n 0) New (cond (eqb n 1) Committed (cond (eqb n 2) Answered Dropped))

-- what is kept of a session under a name: its state's number, its nonce and its commitment
unfoldable pub saved_state : Prover → Saved
saved_state p = record { nonce = p.nonce; commitment = p.commitment; phase = prover_state p.phase; kept = 1 }

-- the memory of a session with this session kept under a name
unfoldable pub keeping : ℕ → Prover → Memory
keeping name p =
    record {
      saved = set p.memory.saved name (saved_state p);
      answered = p.memory.answered;
      count = p.memory.count;
    }

-- saving under a name: 34, else the state, nonce and commitment are kept under it
unfoldable pub saving : Prover → ℕ → Call ProverStep
saving p name =
    record {
      refusals = (34 when leb 8 name) ∷ [];
      value =
          record {
            refusal = 0;
            session = record { phase = p.phase; nonce = p.nonce; commitment = p.commitment; memory = keeping name p };
            values = zeros8;
          };
      refused = handed_back p;
    }

-- the call that saves a session under a name
unfoldable pub save : Prover → ℕ → ProverStep
save p name = answer (saving p name)

-- a session in a saved state, with a memory
unfoldable pub brought_back : Saved → Memory → Prover
brought_back s m = record { phase = prover_phase s.phase; nonce = s.nonce; commitment = s.commitment; memory = m }

-- returning to a name: 34, else the state, nonce and commitment that were saved come back
unfoldable pub returning : Prover → ℕ → Call ProverStep
returning p name =
    record {
      refusals = (34 when never_saved p.memory name) ∷ [];
      value = record { refusal = 0; session = brought_back (saved_at p.memory name) p.memory; values = zeros8 };
      refused = handed_back p;
    }

-- the call that returns to what was saved under a name
unfoldable pub return_to : Prover → ℕ → ProverStep
return_to p name = answer (returning p name)
