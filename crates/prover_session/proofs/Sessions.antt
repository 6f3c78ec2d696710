-- A session that crossed: its state, what saving keeps of it and what returning brings back, with a state's number k.
-- Assumes nothing.
use Prim.Native.Nat.{ℕ, ◌+◌, ◌<◌, ◌≤◌}
use mathlib.Core.Path.{◌≡◌}
use mathlib.Core.Bool.{true, false, not, ◌||◌, or-eq-true_iff}
use mathlib.Core.Logic.Or
use mathlib.Core.Logic.{◌≢◌, ◌⊎◌}
use native.Mathlib.Numerals.{add-one}
use borrow.Author.Tests.{le-leb, lt-leb, eq-eqb, ne_eqb}
use lib.Dec.{leb}
use lib.ListN.{set}
use Rattle.types.specs.declared.Memory.{Memory}
use Rattle.types.specs.declared.ProverPhase.{ProverPhase}
use Rattle.types.specs.declared.ProverPhase.TheVariants.{New, Committed, Answered, Dropped}
use Rattle.lists.specs.Places.{zeros8}
use Rattle.runs.specs.Memory.{listing, never_saved, saved_at}
use Rattle.runs.specs.Prover.{prover_in, prover_state}
use Rattle.runs.specs.Saving.{brought_back, keeping, prover_phase, saved_state}
use Rattle.crossing.specs.Provers.{prover_of, prover_session}
use Rattle.crossing.specs.declared.ProverSession.{ProverSession}
use Rattle.prover.proofs.States.{is_started, not_started}

module _ (s : ProverSession) {phase : ProverPhase} (same : phase ≡ prover_phase s.phase) where
  -- New or Committed can be dropped
  pub session_started : (phase ≡ New) ⊎ (phase ≡ Committed)
      → not (prover_in New (prover_of s) || prover_in Committed (prover_of s)) ≡ false
  unfolding prover_of
  session_started told = is_started (prover_of s) (rw same at told)

  -- Answered or Dropped cannot
  pub session_ended : (phase ≡ Answered) ⊎ (phase ≡ Dropped)
      → not (prover_in New (prover_of s) || prover_in Committed (prover_of s)) ≡ true
  unfolding prover_of
  session_ended told = not_started (prover_of s) (rw same at told)

-- the session that responding hands back
pub listed_session : (s : ProverSession) {k : ℕ} → k ≡ prover_state Answered
    → record {
      nonce = zeros8;
      commitment = s.commitment;
      phase = k;
      memory =
          record {
            saved = s.memory.saved;
            answered = set s.memory.answered s.memory.count (record { commitment = s.commitment });
            count = s.memory.count + 1;
          };
    }
    ≡ prover_session
    (record {
      phase = Answered;
      nonce = zeros8;
      commitment = (prover_of s).commitment;
      memory = listing (prover_of s).commitment (prover_of s).memory;
    })
unfolding prover_session prover_of listing
listed_session s is_state = rw (is_state, add-one s.memory.count)

-- the session that saving hands back
pub saved_session : (s : ProverSession) (name : ℕ) {k : ℕ} → k ≡ prover_state (prover_phase s.phase)
    → record {
      nonce = s.nonce;
      commitment = s.commitment;
      phase = k;
      memory =
          record {
            saved = set s.memory.saved name (record { nonce = s.nonce; commitment = s.commitment; phase = k; kept = 1 });
            answered = s.memory.answered;
            count = s.memory.count;
          };
    }
    ≡ prover_session
    (record {
      phase = (prover_of s).phase;
      nonce = (prover_of s).nonce;
      commitment = (prover_of s).commitment;
      memory = keeping name (prover_of s);
    })
unfolding prover_session prover_of keeping saved_state
saved_session s name number = rw number

-- the session that returning hands back
pub returned_session : (s : ProverSession) (name : ℕ) {k : ℕ} → k ≡ prover_state (prover_phase (saved_at s.memory name).phase)
    → record {
      nonce = (saved_at s.memory name).nonce;
      commitment = (saved_at s.memory name).commitment;
      phase = k;
      memory = s.memory;
    }
    ≡ prover_session (brought_back (saved_at s.memory name) s.memory)
unfolding prover_session brought_back
returned_session s name number = rw number

module _ (m : Memory) (name : ℕ) where
  -- nothing is saved under a name of 8 or more
  pub never_named : 8 ≤ name → never_saved m name ≡ true
  unfolding never_saved
  never_named beyond = (or-eq-true_iff (leb 8 name) _).1 (Or.inl (le-leb 8 name beyond))

  -- nor under a name that was never saved
  pub never_kept : (saved_at m name).kept ≡ 0 → never_saved m name ≡ true
  unfolding never_saved
  never_kept none = (or-eq-true_iff (leb 8 name) _).1 (Or.inr (eq-eqb (saved_at m name).kept 0 none))

  -- under any other name something is
  pub was_saved : name < 8 → (saved_at m name).kept ≢ 0 → never_saved m name ≡ false
  unfolding never_saved
  was_saved few some = rw (lt-leb 8 name few, ne_eqb (saved_at m name).kept 0 some)
