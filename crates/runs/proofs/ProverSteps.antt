-- When each call on Peggy's session is carried out (01, "Sessions"; 02, card 13): what it says of the session, and of what the call
-- brings, that no refusal applies.
-- Assumes nothing.
use Prim.Native.Nat.{ℕ, ◌<◌, ◌≤◌}
use mathlib.Core.Path.{◌≡◌, refl}
use mathlib.Core.Logic.Iff
use mathlib.Core.Logic.{◌↔◌, ◌≢◌, inl, inr, ⊎_elim}
use mathlib.Core.Bool.{false, not}
use mathlib.Core.List.{List}
use native.Mathlib.Omega.{arith}
use Rattle.types.specs.declared.Prover.{Prover}
use Rattle.types.specs.declared.ProverPhase.TheVariants.{New, Committed}
use Rattle.lists.specs.Places.{pad8, places}
use Rattle.lists.proofs.Places.{length_places}
use Rattle.rules.specs.Rule.{Clear}
use Rattle.rules.proofs.Says.{says_at_most, says_equal, says_false, says_or}
use Rattle.rules.proofs.Told.{told_after, told_clear}
use Rattle.formats.specs.Load.{load_refusal, load_rules}
use Rattle.formats.specs.Sheet.{instance_of}
use Rattle.formats.proofs.Positive.{load_positive}
use Rattle.sigma.specs.Image.{image}
use Rattle.sigma.specs.Instance.{Instance, table_of}
use Rattle.sigma.specs.Meaning.{Coordinates}
use Rattle.sigma.specs.Reads.{Agree}
use Rattle.sigma.specs.Round.{bad_coordinates}
use Rattle.sigma.proofs.Calculus.{says_passes, both_fail}
use Rattle.sigma.proofs.Comparison.{differ_false}
use Rattle.sigma.proofs.Passed.{challenge_passes, coordinates_pass, witness_passes}
use Rattle.runs.specs.Meaning.{Commits, Responds, Drops}
use Rattle.runs.specs.Memory.{never_saved, saved_at}
use Rattle.runs.specs.OnSheet.{read_slots}
use Rattle.runs.specs.Prover.{commit, committing, drop_session, dropping, prover_in, respond, responding, unfit_prover}
use Rattle.runs.specs.Saving.{return_to, returning, save, saving}
use Rattle.runs.proofs.Memory.{may_list}
use Rattle.runs.proofs.Tests.{says_prover}
use Rattle.runs.proofs.Witness.{witness_slots}

-- ---- when no refusal of a call applies

-- committing
pub commit_clear : (inst : Instance) (p : Prover) (nonce : List ℕ)
    → Clear (committing inst p nonce).refusals ↔ Commits inst p (places inst.header.columns nonce)
unfolding committing
commit_clear inst p nonce =
    let slots = coordinates_pass inst (places inst.header.columns nonce) in
    let phase = says_passes (says_prover New p) in (
      λ (a, (b, none)). record { nonce = slots.0 a; phase = phase.0 b },
      λ x. (slots.1 x.nonce, (phase.1 x.phase, tt)),
    )

-- what Peggy holds fits
unfit_passes : (inst : Instance) (p : Prover) → (unfit_prover inst p ≡ false)
    ↔ (Coordinates inst (places inst.header.columns p.nonce)
    × Agree 8 (pad8 0 (image (table_of inst) (places inst.header.columns p.nonce))) p.commitment)
unfolding unfit_prover
unfit_passes inst p = Iff.trans (both_fail (bad_coordinates inst _) _) (Iff.and (coordinates_pass inst _) (differ_false 8 _ p.commitment))

-- responding
pub respond_clear : (inst : Instance) (p : Prover) (c : ℕ) (witness : List ℕ)
    → Clear (responding inst p c witness).refusals ↔ Responds inst p c (places inst.header.columns witness)
unfolding responding
respond_clear inst p c witness =
    let x = places inst.header.columns witness in
    let below = challenge_passes inst c in
    let slots = coordinates_pass inst x in
    let image = witness_passes inst x in
    let whole = witness_slots inst x (length_places inst.header.columns witness) in
    let state = both_fail (not (prover_in Committed p)) (unfit_prover inst p) in
    let phase = says_passes (says_prover Committed p) in
    let held = unfit_passes inst p in
    let listed = may_list p.memory p.commitment in (
      λ (a, (b, (d, (e, (f, (g, none)))))). record {
        challenge = below.0 a;
        witness = whole.0 (slots.0 b, image.0 d);
        phase = phase.0 (state.0 e).0;
        nonce = (held.0 (state.0 e).1).0;
        commitment = (held.0 (state.0 e).1).1;
        unlisted = (listed.0 (f, g)).0;
        room = (listed.0 (f, g)).1;
      },
      λ f. (
        below.1 f.challenge,
        (
          slots.1 (whole.1 f.witness).0,
          (
            image.1 (whole.1 f.witness).1,
            (
              state.1 (phase.1 f.phase, held.1 (f.nonce, f.commitment)),
              ((listed.1 (f.unlisted, f.room)).0, ((listed.1 (f.unlisted, f.room)).1, tt)),
            ),
          ),
        ),
      ),
    )

-- dropping
pub drop_clear : (p : Prover) → Clear (dropping p).refusals ↔ Drops p
unfolding dropping
drop_clear p =
    let phase = says_passes (says_or (says_prover New p) (says_prover Committed p)) in
    (λ (a, none). phase.0 a, λ d. (phase.1 d, tt))

-- ---- when a call is not refused

module _ (sheet : List ℕ) (p : Prover) where
  -- committing: exactly in New, for a nonce of domain slots
  pub commit_runs : (nonce : List ℕ)
      → ((commit sheet p nonce).refusal ≡ 0) ↔ ((load_refusal sheet ≡ 0) × Commits (instance_of sheet) p (read_slots sheet nonce))
  unfolding commit committing load_refusal
  commit_runs nonce =
      Iff.trans (told_after (committing (instance_of sheet) p nonce) (λ step. step.refusal) refl (λ n. refl) (load_rules sheet) (load_positive sheet) tt)
      (Iff.and Iff.rfl (commit_clear (instance_of sheet) p nonce))

  -- responding: exactly in Committed, with held values that fit, for a challenge below K and a witness
  pub respond_runs : (c : ℕ) (witness : List ℕ)
      → ((respond sheet p c witness).refusal ≡ 0) ↔ ((load_refusal sheet ≡ 0) × Responds (instance_of sheet) p c (read_slots sheet witness))
  unfolding respond responding load_refusal
  respond_runs c witness =
      Iff.trans (told_after (responding (instance_of sheet) p c witness) (λ step. step.refusal) refl (λ n. refl) (load_rules sheet) (load_positive sheet) tt)
      (Iff.and Iff.rfl (respond_clear (instance_of sheet) p c witness))

module _ (p : Prover) where
  -- dropping: exactly in New and in Committed
  pub drop_runs : ((drop_session p).refusal ≡ 0) ↔ Drops p
  unfolding drop_session dropping
  drop_runs = Iff.trans (told_clear (dropping p) (λ step. step.refusal) refl (λ n. refl) tt) (drop_clear p)

  -- saving: exactly for a name from 0 to 7
  pub save_runs : (name : ℕ) → ((save p name).refusal ≡ 0) ↔ (name < 8)
  unfolding save saving
  save_runs name =
      Iff.trans (told_clear (saving p name) (λ step. step.refusal) refl (λ n. refl) tt) (
        λ (a, none). omega (arith, (says_false (says_at_most 8 name)).0 a),
        λ less. ((says_false (says_at_most 8 name)).1 (λ more. omega arith), tt),
      )

  -- returning: exactly for a name from 0 to 7 that was saved
  pub return_runs : (name : ℕ) → ((return_to p name).refusal ≡ 0) ↔ ((name < 8) × ((saved_at p.memory name).kept ≢ 0))
  unfolding return_to returning never_saved
  return_runs name =
      let never = says_or (says_at_most 8 name) (says_equal (saved_at p.memory name).kept 0) in
      Iff.trans (told_clear (returning p name) (λ step. step.refusal) refl (λ n. refl) tt) (
        λ (a, none). let neither = (says_false never).0 a in (not_le (λ more. neither (inl more)), λ e. neither (inr e)),
        λ (less, saved). ((says_false never).1 (λ either. ⊎_elim (λ more. omega arith) saved either), tt),
      )
    where
      not_le : ¬ (8 ≤ name) → name < 8
      not_le n = omega arith
