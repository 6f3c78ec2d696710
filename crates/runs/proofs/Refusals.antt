-- Each list of refusals tests 01's conditions, so that the number it gives is that of the first condition that holds.
-- Assumes nothing.
use Prim.Native.Nat.{ℕ}
use mathlib.Core.Path.{◌≡◌, refl}
use mathlib.Core.Bool.{or_assoc}
use mathlib.Core.Logic.{◌↔◌, ◌≢◌, ◌⊎◌, inl, inr, ⊎_elim}
use mathlib.Core.List.{List}
use Rattle.types.specs.declared.Prover.{Prover}
use Rattle.types.specs.declared.ProverPhase.TheVariants.{New, Committed}
use Rattle.types.specs.declared.Verifier.{Verifier}
use Rattle.types.specs.declared.VerifierPhase.TheVariants.{Waiting, Holding, Asked}
use Rattle.rules.specs.Condition.{Tests}
use Rattle.rules.proofs.Says.{says_at_most, says_equal, says_not, says_or, says_iff}
use Rattle.sigma.specs.Instance.{Instance}
use Rattle.sigma.specs.Valid.{Valid}
use Rattle.sigma.proofs.Refusals.{commitment_read, coordinates_read, witness_read}
use Rattle.sigma.proofs.Tests.{says_bad_challenge}
use Rattle.runs.specs.Memory.{never_saved, saved_at}
use Rattle.runs.specs.Prover.{committing, responding, dropping}
use Rattle.runs.specs.Refusals.{
  commit_conditions,
  respond_conditions,
  drop_conditions,
  save_conditions,
  return_conditions,
  take_commitment_conditions,
  take_challenge_conditions,
  take_response_conditions,
}
use Rattle.runs.specs.Saving.{returning, saving}
use Rattle.runs.specs.Verifier.{taking_commitment, taking_challenge, taking_response}
use Rattle.runs.proofs.Memory.{says_full, says_listed}
use Rattle.runs.proofs.Tests.{says_prover, says_verifier}
use Rattle.runs.proofs.Tests.{says_unfit_prover, says_unfit_commitment}

-- committing: 16 and 21
pub commit_tests : (inst : Instance) (p : Prover) (k : List ℕ)
    → Tests (committing inst p k).refusals (commit_conditions inst p k)
unfolding committing
commit_tests inst p k = (refl, coordinates_read inst k, (refl, says_not (says_prover New p), tt))

-- responding: 15 to 17, 21, 32 and 33
pub respond_tests : {inst : Instance} → Valid inst → (p : Prover) (c : ℕ) (x : List ℕ)
    → Tests (responding inst p c x).refusals (respond_conditions inst p c x)
unfolding responding
respond_tests {inst} v p c x = (
  refl,
  says_bad_challenge inst c,
  (
    refl,
    coordinates_read inst x,
    (
      refl,
      witness_read v x,
      (
        refl,
        says_or (says_not (says_prover Committed p)) (says_unfit_prover v p),
        (refl, says_listed p.memory p.commitment, (refl, says_full p.memory, tt)),
      ),
    ),
  ),
)

-- dropping: 21
pub drop_tests : (p : Prover) → Tests (dropping p).refusals (drop_conditions p)
unfolding dropping
drop_tests p =
    let neither : ¬ ((p.phase ≡ New) ⊎ (p.phase ≡ Committed)) ↔ ((p.phase ≢ New) × (p.phase ≢ Committed)) =
    (λ n. (λ e. n (inl e), λ e. n (inr e)), λ n. ⊎_elim n.0 n.1) in
    (refl, says_iff (says_not (says_or (says_prover New p) (says_prover Committed p))) neither, tt)

-- saving: 34
pub save_tests : (p : Prover) (name : ℕ) → Tests (saving p name).refusals (save_conditions name)
unfolding saving
save_tests p name = (refl, says_at_most 8 name, tt)

-- returning: 34
pub return_tests : (p : Prover) (name : ℕ) → Tests (returning p name).refusals (return_conditions p name)
unfolding returning never_saved
return_tests p name = (refl, says_or (says_at_most 8 name) (says_equal (saved_at p.memory name).kept 0), tt)

-- Vic's commitment: 14 and 21
pub take_commitment_tests : (inst : Instance) (v : Verifier) (t : List ℕ)
    → Tests (taking_commitment inst v t).refusals (take_commitment_conditions inst v t)
unfolding taking_commitment
take_commitment_tests inst v t = (refl, commitment_read inst t, (refl, says_not (says_verifier Waiting v), tt))

-- Vic's challenge: 15 and 21
pub take_challenge_tests : (inst : Instance) (v : Verifier) (c : ℕ)
    → Tests (taking_challenge inst v c).refusals (take_challenge_conditions inst v c)
unfolding taking_challenge
take_challenge_tests inst v c =
    (refl, says_bad_challenge inst c, (refl, says_or (says_not (says_verifier Holding v)) (says_unfit_commitment inst v), tt))

-- Vic's response: 16 and 21
pub take_response_tests : (inst : Instance) (v : Verifier) (r : List ℕ)
    → Tests (taking_response inst v r).refusals (take_response_conditions inst v r)
unfolding taking_response
take_response_tests inst v r = (
  refl,
  coordinates_read inst r,
  (
    refl,
    simp or_assoc
        (says_or (says_not (says_verifier Asked v))
        (says_or (says_unfit_commitment inst v) (says_bad_challenge inst v.challenge))),
    tt,
  ),
)
