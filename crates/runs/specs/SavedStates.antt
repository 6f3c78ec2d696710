-- What 02's thirteenth card asks of Peggy's session over any list of calls, with any sheets and any arguments, each call given the
-- record that the last one handed back, from any record. What each call hands back is ProverMoves, and when it is refused RunRefusals.
-- Assumes nothing.
use Rattle.std.specs.Prelude.{ℕ, ◌<◌, min, ◌≡◌, List, [], map, get_or}
use Rattle.types.specs.declared.Listed.{Listed}
use Rattle.types.specs.declared.Memory.{Memory}
use Rattle.types.specs.declared.Prover.{Prover}
use Rattle.types.specs.declared.ProverPhase.TheVariants.{New, Committed, Answered, Dropped}
use Rattle.lists.specs.Member.{EachOnce, Member}
use Rattle.lists.specs.Places.{places, zeros8}
use Rattle.runs.specs.Memory.{listed_at, saved_at}
use Rattle.runs.specs.Prover.{prover_state}
use Rattle.runs.specs.ProverCalls.{ProverCall, Save, prover_after, prover_trace, answered_on, Ended, Shaped}
use Rattle.runs.specs.RunCalls.{RunCalls}
use Rattle.runs.specs.Saving.{prover_phase}

module _ (code : RunCalls) where
  open code use {new_prover, save, return_to}

  pub record SavedStates : Type 0 where
    -- no commitment gets two answers: those that are answered, in all eight places, are different from each other
    pub per_commitment : (calls : List ProverCall) (p : Prover) → Shaped p → EachOnce (answered_on (prover_trace code calls p))
    -- nor is one answered that the record lists, of whose count the first 64 are looked at
    pub listed_before : (calls : List ProverCall) (p : Prover) (i : ℕ) → Shaped p → i < min 64 p.memory.count
        → ¬ Member (places 8 (listed_at p.memory i)) (answered_on (prover_trace code calls p))
    -- what is saved under a name stays as it is, its nonce too, until the name is saved under again
    pub saved_stays : (calls : List ProverCall) (p : Prover) (name : ℕ) → ¬ Member (Save name) calls
        → saved_at (prover_after code calls p).memory name ≡ saved_at p.memory name
    -- and a return then brings back the state, nonce and commitment that were saved, whatever the name held before, and changes nothing
    -- else
    pub comes_back : (calls : List ProverCall) (p : Prover) (name : ℕ) → Shaped p → name < 8 → ¬ Member (Save name) calls
        → return_to (prover_after code calls (save p name).session) name
        ≡ record {
          refusal = 0;
          session =
              record {
                phase = p.phase;
                nonce = p.nonce;
                commitment = p.commitment;
                memory = (prover_after code calls (save p name).session).memory;
              };
          values = zeros8;
        }
    -- from a new session any calls, returns too, lead to Answered or Dropped with a nonce of zeros only
    pub wiped_new : (calls : List ProverCall) → Ended (prover_after code calls new_prover).phase → (prover_after code calls new_prover).nonce ≡ zeros8
    -- a new session has eight names and 64 places in its list, and so has every one that calls make of it
    pub shaped : (calls : List ProverCall) → Shaped (prover_after code calls new_prover)
    -- what stands under a name, and the i-th commitment of the list: those of the record's arrays, and nothing beyond their ends
    pub under_name : (m : Memory) (name : ℕ)
        → saved_at m name ≡ get_or m.saved name (record { nonce = []; commitment = []; phase = 0; kept = 0 })
    pub in_list : (m : Memory) (i : ℕ) → listed_at m i ≡ get_or (map (λ (l : Listed). l.commitment) m.answered) i []
    -- a state's number in a saved copy, and the state of a number, Dropped for one that is no state's
    pub numbers : (prover_state New ≡ 0) × (prover_state Committed ≡ 1) × (prover_state Answered ≡ 2) × (prover_state Dropped ≡ 3)
    pub states : (prover_phase 0 ≡ New) × (prover_phase 1 ≡ Committed) × (prover_phase 2 ≡ Answered)
        × ((n : ℕ) → 2 < n → prover_phase n ≡ Dropped)
