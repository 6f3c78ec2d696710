-- The calls of the OR proof are not refused exactly if `EitherRuns` says so. Of a call on the session no condition then holds, and
-- that is what 01's calls say of the two sides, and what committing answers.
-- Assumes nothing.
use Prim.Native.Nat.{ℕ, ◌<◌}
use mathlib.Core.Path.{◌≡◌, refl, sym, ap, subst, ◌∙◌}
use mathlib.Core.Logic.Iff
use mathlib.Core.Logic.{◌↔◌, ◌≢◌, ◌⊎◌, inl, inr, ⊎_elim}
use mathlib.Core.Bool.{Bool, true, false, cond}
use mathlib.Core.List.{List}
use native.Mathlib.Omega.{arith}
use lib.Dec.{eqb}
use Rattle.types.specs.declared.ProverPhase.TheVariants.{Committed, New}
use Rattle.disjunctions.specs.declared.OrProver.{OrProver}
use Rattle.disjunctions.specs.declared.OrStep.{OrStep}
use Rattle.lists.specs.Places.{pad8, places}
use Rattle.lists.proofs.Places.{length_places}
use Rattle.rules.proofs.Determined.{none_hold, none_zero}
use Rattle.rules.proofs.Says.{says_false, says_or}
use Rattle.formats.specs.Load.{load}
use Rattle.formats.specs.Ours.{file_calls}
use Rattle.formats.specs.Sheet.{instance_of}
use Rattle.runs.specs.Calls.{simulate_commitment}
use Rattle.runs.specs.OnSheet.{Below, read_slots}
use Rattle.runs.specs.Ours.{run_calls}
use Rattle.runs.specs.Prover.{commit, new_prover}
use Rattle.runs.specs.Refusals.{commit_conditions}
use Rattle.runs.proofs.OnlyRounds.{agree_from, is_below}
use Rattle.runs.proofs.RunRefusals.{run_refusals}
use Rattle.runs.proofs.Witness.{witness_slots}
use Rattle.sigma.specs.Image.{image, row_image}
use Rattle.sigma.specs.Instance.{Instance, statement_at, table_of}
use Rattle.sigma.specs.Knowledge.{Witness}
use Rattle.sigma.specs.Reads.{Agree, Differ}
use Rattle.sigma.specs.Refusals.{Refusal15, Refusal16, simulate_conditions}
use Rattle.sigma.specs.Simulator.{simulated}
use Rattle.sigma.specs.Valid.{Valid}
use Rattle.sigma.proofs.Calculus.{says_stable}
use Rattle.sigma.proofs.Passed.{coordinates_pass, witness_passes}
use Rattle.sigma.proofs.Refusals.{coordinates_read, witness_read}
use Rattle.disjunctions.specs.Ours.{Pair, or_calls}
use Rattle.disjunctions.specs.Prover.{
  commit_or,
  drop_or,
  first_commitment,
  new_or_prover,
  other,
  own,
  respond_or,
  second_commitment,
  wiped_or,
}
use Rattle.disjunctions.specs.Refusals.{commit_or_conditions, drop_or_conditions, respond_or_conditions}
use Rattle.disjunctions.specs.RunsWhere.{EitherRuns, Makes}
use Rattle.disjunctions.proofs.Judged.{first_valid, second_valid}
use Rattle.disjunctions.proofs.OrRefusals.{or_refusals}
use Rattle.disjunctions.proofs.OrSessions.{commit_or_given, other_instance, own_instance}
use Rattle.disjunctions.proofs.SessionTests.{first_read, own_valid, says_or_prover, second_read}
use Rattle.disjunctions.proofs.RoundsWhere.{extracts, judges, on_pair_law, on_sheet_law, swapped}

-- ---- the sides' sheets

module _ (s s' : List ℕ) (pair : Pair s s') (side : ℕ) where
  -- the sheets of both sides load with the K of the first
  own_loads : (file_calls.load (own side s s')).refusal ≡ 0
  unfolding own
  own_loads = on (eqb side 0)
    where
      on : (b : Bool) → (file_calls.load (cond b s s')).refusal ≡ 0
      on true = pair.first_loads
      on false = pair.second_loads

  other_loads : (file_calls.load (other side s s')).refusal ≡ 0
  unfolding other
  other_loads = on (eqb side 0)
    where
      on : (b : Bool) → (file_calls.load (cond b s' s)).refusal ≡ 0
      on true = pair.second_loads
      on false = pair.first_loads

  other_count : (instance_of (other side s s')).header.challenges ≡ (instance_of s).header.challenges
  unfolding other
  other_count = on (eqb side 0)
    where
      on : (b : Bool) → (instance_of (cond b s' s)).header.challenges ≡ (instance_of s).header.challenges
      on true = sym pair.one_count
      on false = refl

new_phase : new_prover.phase ≡ New
unfolding new_prover
new_phase = refl

new_or_phase : new_or_prover.phase ≡ New
unfolding new_or_prover wiped_or
new_or_phase = refl

-- committing
commits : (s s' : List ℕ) (p : OrProver) (side d : ℕ) (k r : List ℕ) → ((commit_or s s' p side k d r).refusal ≡ 0)
    ↔ (Pair s s' × (p.phase ≡ New) × ((commit (own side s s') new_prover k).refusal ≡ 0)
    × ((simulate_commitment (other side s s') d r).refusal ≡ 0))
commits s s' p side d k r =
    let i = instance_of s in
    let j = instance_of s' in
    let mine = own side s s' in
    let yours = other side s s' in
    let here = on_pair_law s s' (commit_or_conditions i j p side k d r) (or_refusals.committing s s' p side k d r) in
    let first = on_sheet_law mine (commit_conditions (instance_of mine) new_prover k) (run_refusals.committing mine new_prover k) in
    let second = on_sheet_law yours (simulate_conditions (instance_of yours) d r) (run_refusals.simulating yours d r) in (
      λ e.
          let (pair, none) = here.0 e in
          let slots : ¬ Refusal16 (instance_of mine) k =
          subst (λ (inst : Instance). ¬ Refusal16 inst k) (own_instance side s s') (λ x. none.1.0 (inl x)) in
          let slots' : ¬ Refusal16 (instance_of yours) r =
          subst (λ (inst : Instance). ¬ Refusal16 inst r) (other_instance side s s') (λ x. none.1.0 (inr x)) in (
            pair,
            says_stable (says_or_prover New p) none.1.1.0,
            first.1 (own_loads s s' pair side, (slots, ((λ f. f new_phase), tt))),
            second.1 (other_loads s s' pair side, ((λ x. none.0 (rw (other_count s s' pair side) at x)), (slots', tt))),
          ),
      λ (pair, new, e, f).
          let a = (first.0 e).1 in
          let b = (second.0 f).1 in
          here.1 (
            pair,
            (
              λ x. b.0 (rw (other_count s s' pair side) x),
              (
                ⊎_elim
                    (subst (λ (inst : Instance). ¬ Refusal16 inst k) (sym (own_instance side s s')) a.0)
                    (subst (λ (inst : Instance). ¬ Refusal16 inst r) (sym (other_instance side s s')) b.1.0),
                ((λ g. g new), tt),
              ),
            ),
          ),
    )

-- 16 and 17 do not hold exactly if what is read of x is a witness
witness_none : {inst : Instance} → Valid inst → (x : List ℕ)
    → ((¬ Refusal16 inst x) × (¬ ((row : ℕ) × (row < inst.header.rows) × (row_image (table_of inst) x row ≢ statement_at inst row))))
    ↔ Witness inst (places inst.header.columns x)
witness_none {inst} v x =
    let read = places inst.header.columns x in
    Iff.trans
    (Iff.and (Iff.trans (Iff.symm (says_false (coordinates_read inst x))) (coordinates_pass inst read))
    (Iff.trans (Iff.symm (says_false (witness_read v x))) (witness_passes inst read)))
    (witness_slots inst read (length_places inst.header.columns x))

-- what 21 asks besides the state and the side: a held value is no slot or no challenge of its sheet, or a commitment differs
abbrev Unheld : Instance → Instance → OrProver → Type 0
Unheld i j p =
    Refusal16 (own p.side i j) p.nonce ⊎ Refusal16 (other p.side i j) p.response ⊎ Refusal15 i p.challenge ⊎
    Differ 8 (pad8 0 (own p.side (image (table_of i) p.nonce) (simulated i p.challenge p.response))) p.commitment0 ⊎
    Differ 8 (pad8 0 (own p.side (simulated j p.challenge p.response) (image (table_of j) p.nonce))) p.commitment1

-- arrays agree in eight places exactly if they do not differ there
agree_none : (xs ys zs : List ℕ) → zs ≡ xs → (¬ Differ 8 xs ys) ↔ Agree 8 zs ys
agree_none xs ys zs e = (
  λ none. subst (λ (v : List ℕ). Agree 8 v ys) (sym e) (agree_from 8 xs ys none),
  λ agree (l, h, apart). apart (subst (λ (v : List ℕ). Agree 8 v ys) e agree l h),
)

module _ (s s' : List ℕ) (pair : Pair s s') where
  -- what committing in a new session answers
  commitments : (side : ℕ) (k : List ℕ) (d : ℕ) (r : List ℕ) → (commit_or s s' new_or_prover side k d r).refusal ≡ 0
      → ((commit_or s s' new_or_prover side k d r).values0
      ≡ pad8 0 (own side (image (table_of (instance_of s)) k) (simulated (instance_of s) d r)))
      × ((commit_or s s' new_or_prover side k d r).values1
      ≡ pad8 0 (own side (simulated (instance_of s') d r) (image (table_of (instance_of s')) k)))
  unfolding first_commitment second_commitment
  commitments side k d r e =
      let i = instance_of s in
      let j = instance_of s' in
      let v = first_valid s s' pair in
      let w = second_valid s s' pair in
      let given = commit_or_given s s' new_or_prover side k d r e
      (places (own side i j).header.columns k) (places (other side i j).header.columns r)
      (ap (λ (inst : Instance). places inst.header.columns k) (own_instance side s s'))
      (ap (λ (inst : Instance). places inst.header.columns r) (other_instance side s s')) in (
        ap (λ (step : OrStep). step.values0) given ∙ ap (pad8 0) (first_read v w k d r side),
        ap (λ (step : OrStep). step.values1) given ∙ ap (pad8 0) (second_read v w k d r side),
      )

  -- the held values fit exactly if committing to them makes the held commitments
  fits_makes : (p : OrProver)
      → (¬ Unheld (instance_of s) (instance_of s') p)
      ↔ Makes (commit_or s s' new_or_prover p.side p.nonce p.challenge p.response) p
  fits_makes p =
      let here = on_pair_law s s'
      (commit_or_conditions (instance_of s) (instance_of s') new_or_prover p.side p.nonce p.challenge p.response)
      (or_refusals.committing s s' new_or_prover p.side p.nonce p.challenge p.response) in (
        λ fits.
            let slots = ⊎_elim (λ y. fits (inl y)) (λ y. fits (inr (inl y))) in
            let runs = here.1 (pair, ((λ y. fits (inr (inr (inl y)))), (slots, ((λ f. f new_or_phase), tt)))) in
            let (t, t') = commitments p.side p.nonce p.challenge p.response runs in (
              runs,
              (agree_none _ p.commitment0 _ t).0 (λ y. fits (inr (inr (inr (inl y))))),
              (agree_none _ p.commitment1 _ t').0 (λ y. fits (inr (inr (inr (inr y))))),
            ),
        λ (runs, first, second).
            let none = (here.0 runs).1 in
            let (t, t') = commitments p.side p.nonce p.challenge p.response runs in
            ⊎_elim (λ y. none.1.0 (inl y)) (⊎_elim (λ y. none.1.0 (inr y)) (⊎_elim none.0
            (⊎_elim ((agree_none _ p.commitment0 _ t).1 first) ((agree_none _ p.commitment1 _ t').1 second)))),
      )

-- the witness, of the instance and of the sheet of a side
own_witness : (s s' : List ℕ) (side : ℕ) (x : List ℕ)
    → Witness (own side (instance_of s) (instance_of s')) (places (own side (instance_of s) (instance_of s')).header.columns x)
    ↔ Witness (instance_of (own side s s')) (read_slots (own side s s') x)
own_witness s s' side x =
    let same = own_instance side s s' in (
      subst (λ (inst : Instance). Witness inst (places inst.header.columns x)) same,
      subst (λ (inst : Instance). Witness inst (places inst.header.columns x)) (sym same),
    )

-- responding
responds : (s s' : List ℕ) (p : OrProver) (c : ℕ) (x : List ℕ) → ((respond_or s s' p c x).refusal ≡ 0)
    ↔ (Pair s s' × (p.phase ≡ Committed) × (p.side < 2) × Below s c
    × Witness (instance_of (own p.side s s')) (read_slots (own p.side s s') x)
    × Makes (commit_or s s' new_or_prover p.side p.nonce p.challenge p.response) p)
responds s s' p c x =
    let here = on_pair_law s s' (respond_or_conditions (instance_of s) (instance_of s') p c x) (or_refusals.responding s s' p c x) in (
      λ e.
          let (pair, none) = here.0 e in
          let session = none.1.1.1.0 in
          let few : ¬ (1 < p.side) = λ y. session (inr (inl y)) in
          let valid = own_valid (first_valid s s' pair) (second_valid s s' pair) p.side in (
            pair,
            says_stable (says_or_prover Committed p) (λ f. session (inl f)),
            omega (arith, few),
            is_below s c none.0,
            (own_witness s s' p.side x).0 ((witness_none valid x).0 (none.1.0, none.1.1.0)),
            (fits_makes s s' pair p).0 (λ y. session (inr (inr y))),
          ),
      λ (pair, phase, side, below, witness, made).
          let valid = own_valid (first_valid s s' pair) (second_valid s s' pair) p.side in
          let (slots, rows) = (witness_none valid x).1 ((own_witness s s' p.side x).1 witness) in
          here.1 (
            pair,
            (
              λ y. omega (arith, below, y),
              (slots, (rows, (⊎_elim (λ f. f phase) (⊎_elim (λ y. omega (arith, side, y)) ((fits_makes s s' pair p).1 made)), tt))),
            ),
          ),
    )

-- dropping
drops : (p : OrProver) → ((drop_or p).refusal ≡ 0) ↔ ((p.phase ≡ New) ⊎ (p.phase ≡ Committed))
drops p =
    let r = or_refusals.dropping p in (
      λ e.
          says_stable (says_or (says_or_prover New p) (says_or_prover Committed p))
          (λ n. (none_hold r r e).0 (λ f. n (inl f), λ f. n (inr f))),
      λ either. none_zero (drop_or_conditions p) _ ((λ n. ⊎_elim n.0 n.1 either), tt) r.given,
    )

-- ---- all calls

pub either_runs : EitherRuns file_calls run_calls or_calls
either_runs = record {
  judges = judges;
  extracts = extracts;
  swapped = swapped;
  commits = commits;
  responds = responds;
  drops = drops;
}
