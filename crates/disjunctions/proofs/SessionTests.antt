-- The rules of Peggy's session test their conditions, what is held being read as what is brought is.
-- Assumes nothing.
use Prim.Native.Nat.{ℕ, ◌*◌, ◌%◌, ◌<◌}
use mathlib.Core.Path.{◌≡◌, refl, ap}
use mathlib.Core.Bool.{Bool, true, false, cond, not, or_assoc}
use mathlib.Core.Logic.{◌↔◌, ◌≢◌, ◌⊎◌, inl, inr, ⊎_elim}
use mathlib.Core.List.{List, []}
use lib.Dec.{eqb}
use lib.IntN.{pos, neg_ℤ}
use Rattle.types.specs.declared.ProverPhase.{ProverPhase}
use Rattle.types.specs.declared.ProverPhase.TheVariants.{New, Committed}
use Rattle.disjunctions.specs.declared.OrProver.{OrProver}
use Rattle.lists.specs.Places.{pad8, places}
use Rattle.lists.proofs.Places.{get_d_places, tabulate_agree}
use Rattle.numbers.specs.Integer.{power}
use Rattle.rules.specs.Condition.{Tests}
use Rattle.rules.specs.Says.{Says}
use Rattle.rules.proofs.Says.{says_iff, says_less, says_not, says_or}
use Rattle.runs.specs.Memory.{no_memory}
use Rattle.runs.specs.Prover.{prover_in}
use Rattle.runs.proofs.Tests.{says_prover}
use Rattle.sigma.specs.Image.{image}
use Rattle.sigma.specs.Instance.{Instance, statement_at, table_of}
use Rattle.sigma.specs.Reads.{Differ}
use Rattle.sigma.specs.Refusals.{Refusal15, Refusal16}
use Rattle.sigma.specs.Simulator.{simulated}
use Rattle.sigma.specs.Valid.{Valid}
use Rattle.sigma.proofs.Comparison.{says_differ}
use Rattle.sigma.proofs.Refusals.{coordinates_read, image_read, witness_read}
use Rattle.sigma.proofs.Tests.{says_bad_challenge}
use Rattle.sigma.proofs.Unread.{row_image_agree}
use Rattle.disjunctions.specs.Prover.{
  committing_or,
  dropping_or,
  first_commitment,
  or_prover_in,
  other,
  own,
  responding_or,
  second_commitment,
  unfit_or,
}
use Rattle.disjunctions.specs.Refusals.{commit_or_conditions, drop_or_conditions, respond_or_conditions}

-- the session is in a state
pub says_or_prover : (state : ProverPhase) (p : OrProver) → Says (or_prover_in state p) (p.phase ≡ state)
unfolding or_prover_in prover_in
says_or_prover state p = says_prover state (record { phase = p.phase; nonce = []; commitment = []; memory = no_memory })

-- the simulated commitment of what is read of r is that of r
pub simulated_read : {i : Instance} → Valid i → (d : ℕ) (r : List ℕ)
    → simulated i d (places i.header.columns r) ≡ simulated i d r
unfolding simulated
simulated_read {i} v d r =
    let n = i.header.columns in
    tabulate_agree i.header.rows _ _
    (λ row h. ap (λ (u : ℕ). u * power i.header.modulus (statement_at i row) (neg_ℤ (pos d)) % i.header.modulus)
    (row_image_agree v.table (places n r) r (get_d_places n r) row h))

module _ {i j : Instance} (v : Valid i) (w : Valid j) (k : List ℕ) (d : ℕ) (r : List ℕ) where
  -- both commitments read n places of the nonce and of the simulated response, each by its own sheet
  pub first_read : (side : ℕ)
      → first_commitment i side (places (own side i j).header.columns k) d (places (other side i j).header.columns r)
      ≡ first_commitment i side k d r
  unfolding first_commitment own other
  first_read side = on (eqb side 0)
    where
      on : (b : Bool)
          → cond b (image (table_of i) (places (cond b i j).header.columns k)) (simulated i d (places (cond b j i).header.columns r))
          ≡ cond b (image (table_of i) k) (simulated i d r)
      on true = image_read v.table k
      on false = simulated_read v d r

  pub second_read : (side : ℕ)
      → second_commitment j side (places (own side i j).header.columns k) d (places (other side i j).header.columns r)
      ≡ second_commitment j side k d r
  unfolding second_commitment own other
  second_read side = on (eqb side 0)
    where
      on : (b : Bool)
          → cond b (simulated j d (places (cond b j i).header.columns r)) (image (table_of j) (places (cond b i j).header.columns k))
          ≡ cond b (simulated j d r) (image (table_of j) k)
      on true = simulated_read w d r
      on false = image_read w.table k

-- committing
pub commit_or_tests : (i j : Instance) (p : OrProver) (side : ℕ) (k : List ℕ) (d : ℕ) (r : List ℕ)
    → Tests (committing_or i j p side k d r).refusals (commit_or_conditions i j p side k d r)
unfolding committing_or
commit_or_tests i j p side k d r = (
  refl,
  says_bad_challenge i d,
  (
    refl,
    says_or (coordinates_read (own side i j) k) (coordinates_read (other side i j) r),
    (refl, says_not (says_or_prover New p), tt),
  ),
)

module _ {i j : Instance} (v : Valid i) (w : Valid j) where
  -- the sheet of a side is valid
  pub own_valid : (side : ℕ) → Valid (own side i j)
  unfolding own
  own_valid side = on (eqb side 0)
    where
      on : (b : Bool) → Valid (cond b i j)
      on true = v
      on false = w

  -- what Peggy holds does not fit the sheets
  says_unfit_or : (p : OrProver)
      → Says (unfit_or i j p)
      ((1 < p.side) ⊎ Refusal16 (own p.side i j) p.nonce ⊎ Refusal16 (other p.side i j) p.response ⊎
      Refusal15 i p.challenge ⊎
      Differ 8 (pad8 0 (own p.side (image (table_of i) p.nonce) (simulated i p.challenge p.response))) p.commitment0 ⊎
      Differ 8 (pad8 0 (own p.side (simulated j p.challenge p.response) (image (table_of j) p.nonce))) p.commitment1)
  unfolding unfit_or first_commitment second_commitment
  says_unfit_or p =
      simp or_assoc
      (rw (
        first_read v w p.nonce p.challenge p.response p.side,
        second_read v w p.nonce p.challenge p.response p.side,
      )
      (says_or (says_less 1 p.side) (says_or (coordinates_read (own p.side i j) p.nonce)
      (says_or (coordinates_read (other p.side i j) p.response) (says_or (says_bad_challenge i p.challenge)
      (says_or (says_differ 8 _ p.commitment0) (says_differ 8 _ p.commitment1)))))))

  -- responding
  pub respond_or_tests : (p : OrProver) (c : ℕ) (x : List ℕ)
      → Tests (responding_or i j p c x).refusals (respond_or_conditions i j p c x)
  unfolding responding_or
  respond_or_tests p c x = (
    refl,
    says_bad_challenge i c,
    (
      refl,
      coordinates_read (own p.side i j) x,
      (
        refl,
        witness_read (own_valid p.side) x,
        (refl, says_or (says_not (says_or_prover Committed p)) (says_unfit_or p), tt),
      ),
    ),
  )

-- dropping
pub drop_or_tests : (p : OrProver) → Tests (dropping_or p).refusals (drop_or_conditions p)
unfolding dropping_or
drop_or_tests p =
    let neither : ¬ ((p.phase ≡ New) ⊎ (p.phase ≡ Committed)) ↔ ((p.phase ≢ New) × (p.phase ≢ Committed)) =
    (λ n. (λ e. n (inl e), λ e. n (inr e)), λ n. ⊎_elim n.0 n.1) in
    (refl, says_iff (says_not (says_or (says_or_prover New p) (says_or_prover Committed p))) neither, tt)
