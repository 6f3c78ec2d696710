-- What each test of a session says (01, "Sessions"; refusal 21).
-- Assumes nothing.
use Prim.Native.Nat.{ℕ, zero, suc}
use mathlib.Core.Path.{◌≡◌, refl, sym, ap, ◌∙◌}
use mathlib.Core.Logic.{◌⊎◌}
use Rattle.types.specs.declared.Prover.{Prover}
use Rattle.types.specs.declared.ProverPhase.{ProverPhase}
use Rattle.types.specs.declared.ProverPhase.TheVariants.{New, Committed, Answered, Dropped}
use Rattle.types.specs.declared.Verifier.{Verifier}
use Rattle.types.specs.declared.VerifierPhase.{VerifierPhase}
use Rattle.types.specs.declared.VerifierPhase.TheVariants.{Waiting, Holding, Asked, Judged}
use Rattle.lists.specs.Places.{pad8}
use Rattle.rules.specs.Says.{Says}
use Rattle.rules.proofs.Says.{says_equal, says_or, says_iff}
use Rattle.sigma.specs.Image.{image}
use Rattle.sigma.specs.Instance.{Instance, table_of}
use Rattle.sigma.specs.Reads.{Differ}
use Rattle.sigma.specs.Refusals.{Refusal14, Refusal16}
use Rattle.sigma.specs.Valid.{Valid}
use Rattle.sigma.proofs.Comparison.{says_differ}
use Rattle.sigma.proofs.Refusals.{commitment_read, coordinates_read, image_read}
use Rattle.runs.specs.Prover.{prover_state, prover_in, unfit_prover}
use Rattle.runs.specs.Verifier.{verifier_state, verifier_in, unfit_commitment}

-- ---- states

-- the state of a number, the last for every number beyond
prover_at : ℕ → ProverPhase
prover_at zero = New
prover_at (suc zero) = Committed
prover_at (suc (suc zero)) = Answered
prover_at (suc (suc (suc n))) = Dropped

-- a state's number has the state
prover_at_law : (s : ProverPhase) → prover_at (prover_state s) ≡ s
unfolding prover_state prover_at
prover_at_law New = refl
prover_at_law Committed = refl
prover_at_law Answered = refl
prover_at_law Dropped = refl

-- Peggy's session is in a state
pub says_prover : (state : ProverPhase) (p : Prover) → Says (prover_in state p) (p.phase ≡ state)
unfolding prover_in
says_prover state p =
    says_iff (says_equal (prover_state p.phase) (prover_state state))
    (λ e. sym (prover_at_law p.phase) ∙ ap prover_at e ∙ prover_at_law state, ap prover_state)

-- the state of a number, the last for every number beyond
verifier_at : ℕ → VerifierPhase
verifier_at zero = Waiting
verifier_at (suc zero) = Holding
verifier_at (suc (suc zero)) = Asked
verifier_at (suc (suc (suc n))) = Judged

-- a state's number has the state
verifier_at_law : (s : VerifierPhase) → verifier_at (verifier_state s) ≡ s
unfolding verifier_state verifier_at
verifier_at_law Waiting = refl
verifier_at_law Holding = refl
verifier_at_law Asked = refl
verifier_at_law Judged = refl

-- Vic's session is in a state
pub says_verifier : (state : VerifierPhase) (v : Verifier) → Says (verifier_in state v) (v.phase ≡ state)
unfolding verifier_in
says_verifier state v =
    says_iff (says_equal (verifier_state v.phase) (verifier_state state))
    (λ e. sym (verifier_at_law v.phase) ∙ ap verifier_at e ∙ verifier_at_law state, ap verifier_state)

-- ---- held values (21)

-- what Peggy holds does not fit the instance
pub says_unfit_prover : {inst : Instance} → Valid inst → (p : Prover)
    → Says (unfit_prover inst p)
    (Refusal16 inst p.nonce ⊎ Differ 8 (pad8 0 (image (table_of inst) p.nonce)) p.commitment)
unfolding unfit_prover
says_unfit_prover {inst} v p =
    rw (image_read v.table p.nonce) (says_or (coordinates_read inst p.nonce) (says_differ 8 _ p.commitment))

-- the commitment that Vic holds does not fit the instance
pub says_unfit_commitment : (inst : Instance) (v : Verifier) → Says (unfit_commitment inst v) (Refusal14 inst v.commitment)
unfolding unfit_commitment
says_unfit_commitment inst v = commitment_read inst v.commitment
