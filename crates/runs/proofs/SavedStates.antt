-- Saved states of Peggy's session (02, card 13) over any list of calls: what is saved under a name stays until it is saved under again,
-- and comes back; from a new session no nonce but zeros is held once it is Answered or Dropped, and the record keeps its shape.
-- Assumes nothing.
use Prim.Native.Nat.{ℕ, ◌<◌, ◌≤◌}
use mathlib.Core.Path.{◌≡◌, refl, sym, ap, subst, ◌∙◌}
use mathlib.Core.Logic.{◌≢◌, inl, inr}
use mathlib.Core.List.{List}
use native.Mathlib.Decide.{dec_lt}
use native.Mathlib.Omega.{arith}
use borrow.Author.Tests.{ne_eqb}
use lib.ListN.{length, get_or-replicate, get_or-eq_default, get_or-map}
use lib.Seq.{get_or-set_same, get_or-set_other, set_out}
use Rattle.types.specs.declared.Listed.{Listed}
use Rattle.types.specs.declared.Prover.{Prover}
use Rattle.types.specs.declared.ProverPhase.{ProverPhase}
use Rattle.types.specs.declared.ProverPhase.TheVariants.{New, Committed, Answered, Dropped}
use Rattle.types.specs.declared.ProverStep.{ProverStep}
use Rattle.types.specs.declared.Saved.{Saved}
use Rattle.lists.specs.Member.{Member}
use Rattle.lists.specs.Places.{zeros8}
use Rattle.rules.proofs.Says.{says_decides, says_equal}
use Rattle.runs.specs.Memory.{no_memory, listed_at, saved_at}
use Rattle.runs.specs.Ours.{call_prover, prover_after, prover_trace, run_calls}
use Rattle.runs.specs.Prover.{new_prover, prover_state}
use Rattle.runs.specs.ProverCalls.{ProverCall, Commit, Respond, Drop, Save, Return, ProverMoves, Ended, Shaped}
use Rattle.runs.specs.SavedStates.{SavedStates}
use Rattle.runs.specs.Saving.{brought_back, keeping, prover_phase, return_to, returning, save, saved_state, saving}
use Rattle.runs.proofs.PerCommitment.{listed_before, per_commitment, shape_kept}
use Rattle.runs.proofs.ProverCalls.{ended_apart, prover_value, peggy}
use Rattle.runs.proofs.ProverSteps.{return_runs, save_runs}
use Rattle.runs.proofs.Run.{stays}

-- ---- states and their numbers

-- a state's number has the state
pub phase_of_state : (phase : ProverPhase) → prover_phase (prover_state phase) ≡ phase
unfolding prover_phase prover_state
phase_of_state New = refl
phase_of_state Committed = refl
phase_of_state Answered = refl
phase_of_state Dropped = refl

-- a number above 2 has Dropped
pub phase_beyond : (n : ℕ) → 2 < n → prover_phase n ≡ Dropped
unfolding prover_phase
phase_beyond n beyond = rw (ne_eqb n 0 (λ e. omega arith), ne_eqb n 1 (λ e. omega arith), ne_eqb n 2 (λ e. omega arith))

-- ---- what is saved under a name stays

-- saving under another name leaves it
saving_leaves : (p : Prover) (other name : ℕ) → other ≢ name → saved_at (keeping other p) name ≡ saved_at p.memory name
unfolding keeping saved_at
saving_leaves p other name apart = get_or-set_other p.memory.saved other name _ _ (λ e. apart (sym e))

-- so does every call of a list of which none saves under it
name_kept : (calls : List ProverCall) (name : ℕ) → ¬ Member (Save name) calls → (s : Saved) (call : ProverCall) → Member call calls
    → (p : Prover) (step : ProverStep) → ProverMoves p call step → saved_at p.memory name ≡ s
    → saved_at step.session.memory name ≡ s
unfolding keeping saved_state saved_at
name_kept calls name none s (Commit sheet nonce) member p step moved same = rw moved.1 same
name_kept calls name none s (Respond sheet c x) member p step moved same = rw moved.1 same
name_kept calls name none s Drop member p step moved same = rw moved.1 same
name_kept calls name none s (Save other) member p step moved same =
    let apart : other ≢ name = λ e. none (subst (λ (n : ℕ). Member (Save n) calls) e member) in
    rw moved.1 (saving_leaves p other name apart ∙ same)
name_kept calls name none s (Return other) member p step moved same = rw moved.1 same

-- over any calls
saved_stays : (calls : List ProverCall) (p : Prover) (name : ℕ) → ¬ Member (Save name) calls
    → saved_at (prover_after calls p).memory name ≡ saved_at p.memory name
unfolding prover_after call_prover
saved_stays calls p name none =
    stays peggy (λ q. saved_at q.memory name ≡ saved_at p.memory name) calls (name_kept calls name none _) p refl

-- ---- and comes back

-- what was just saved
saved_here : (p : Prover) (name : ℕ) → Shaped p → name < 8 → saved_at (save p name).session.memory name ≡ saved_state p
unfolding call_prover saving keeping saved_at
saved_here p name shaped less =
    ap (λ (step : ProverStep). saved_at step.session.memory name) (prover_value (Save name) p ((save_runs p name).1 less))
    ∙ get_or-set_same p.memory.saved name _ _ (omega arith)

comes_back : (calls : List ProverCall) (p : Prover) (name : ℕ) → Shaped p → name < 8 → ¬ Member (Save name) calls
    → return_to (prover_after calls (save p name).session) name
    ≡ record {
      refusal = 0;
      session =
          record {
            phase = p.phase;
            nonce = p.nonce;
            commitment = p.commitment;
            memory = (prover_after calls (save p name).session).memory;
          };
      values = zeros8;
    }
unfolding call_prover returning brought_back saved_state
comes_back calls p name shaped less none =
    let q = prover_after calls (save p name).session in
    let there : saved_at q.memory name ≡ saved_state p =
    saved_stays calls (save p name).session name none ∙ saved_here p name shaped less in
    let kept : (saved_at q.memory name).kept ≢ 0 =
    λ e. let one : (saved_at q.memory name).kept ≡ 1 = ap (λ (s : Saved). s.kept) there in omega arith in
    prover_value (Return name) q ((return_runs q name).1 (less, kept)) ∙ rw (there, phase_of_state p.phase)

-- ---- nonces of zeros

-- a session that has ended has a nonce of zeros, and so has each saved state that has
record Clean (p : Prover) : Type 0 where
  held : Ended p.phase → p.nonce ≡ zeros8
  saved : (name : ℕ) → Ended (prover_phase (saved_at p.memory name).phase) → (saved_at p.memory name).nonce ≡ zeros8

-- what is saved in a new session, and beyond its names, is New
unsaved : (name : ℕ) → prover_phase (saved_at no_memory name).phase ≡ New
unfolding no_memory saved_at prover_phase
unsaved name = elim (dec_lt name 8) [
  | yes inside ↦ ap (λ (s : Saved). prover_phase s.phase) (get_or-replicate 8 name _ _ inside)
  | no outside ↦ ap (λ (s : Saved). prover_phase s.phase) (get_or-eq_default no_memory.saved _ {n = name} (omega arith))
]

-- so a new session is clean
new_clean : Clean new_prover
unfolding new_prover
new_clean = record {
  held = λ ended. absurd (ended_apart New ended (inl refl));
  saved = λ name over. absurd (ended_apart New (rw (unsaved name) at over) (inl refl));
}

-- saving under a name that is a place, or none
saved_there : (p : Prover) (name : ℕ) → name < length p.memory.saved → saved_at (keeping name p) name ≡ saved_state p
unfolding keeping saved_at
saved_there p name inside = get_or-set_same p.memory.saved name _ _ inside

saved_out : (p : Prover) (name : ℕ) → length p.memory.saved ≤ name → saved_at (keeping name p) name ≡ saved_at p.memory name
unfolding keeping saved_at
saved_out p name outside = rw (set_out p.memory.saved name _ outside)

-- what is saved of a clean session is clean
saving_clean : (p : Prover) (other : ℕ) → Clean p → (name : ℕ)
    → Ended (prover_phase (saved_at (keeping other p) name).phase) → (saved_at (keeping other p) name).nonce ≡ zeros8
unfolding saved_state
saving_clean p other clean name over = elim (says_decides (says_equal other name)) [
  | inl same ↦ rw same (here name (rw same at over))
  | inr apart ↦
      let left = saving_leaves p other name apart in
      rw left (clean.saved name (rw left at over))
]
  where
    here : (name : ℕ) → Ended (prover_phase (saved_at (keeping name p) name).phase) → (saved_at (keeping name p) name).nonce ≡ zeros8
    here name over = elim (dec_lt name (length p.memory.saved)) [
      | yes inside ↦
          let there = saved_there p name inside in
          rw there (clean.held (rw (there, phase_of_state p.phase) at over))
      | no outside ↦
          let left = saved_out p name (omega arith) in
          rw left (clean.saved name (rw left at over))
    ]

-- every call keeps it so
clean_kept : (call : ProverCall) (p : Prover) (step : ProverStep) → ProverMoves p call step → Clean p → Clean step.session
unfolding keeping saved_state saved_at
clean_kept (Commit sheet nonce) p step moved clean =
    rw moved.1 (record { held = λ ended. absurd (ended_apart Committed ended (inr refl)); saved = clean.saved })
clean_kept (Respond sheet c x) p step moved clean = rw moved.1 (record { held = λ ended. refl; saved = clean.saved })
clean_kept Drop p step moved clean = rw moved.1 (record { held = λ ended. refl; saved = clean.saved })
clean_kept (Save other) p step moved clean = rw moved.1 (record { held = clean.held; saved = saving_clean p other clean })
clean_kept (Return other) p step moved clean = rw moved.1 (record { held = clean.saved other; saved = clean.saved })

-- ---- eight names and 64 places

new_shaped : Shaped new_prover
unfolding new_prover no_memory
new_shaped = (refl, refl)

-- ---- the card

pub saved_states : SavedStates run_calls
unfolding prover_trace prover_after call_prover prover_state prover_phase listed_at saved_at
saved_states = record {
  per_commitment = per_commitment;
  listed_before = listed_before;
  saved_stays = saved_stays;
  comes_back = comes_back;
  wiped_new = λ calls. (stays peggy Clean calls (λ call member. clean_kept call) new_prover new_clean).held;
  shaped = λ calls. stays peggy Shaped calls (λ call member. shape_kept call) new_prover new_shaped;
  under_name = λ m name. refl;
  in_list = λ m i. sym (get_or-map (λ (l : Listed). l.commitment) m.answered i _);
  numbers = (refl, refl, refl, refl);
  states = (refl, refl, refl, phase_beyond);
}
