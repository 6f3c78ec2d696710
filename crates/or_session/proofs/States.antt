-- Which states a `let .. else` or an arm of a match turns back, as in 01's session of Peggy.
-- Assumes nothing.
use mathlib.Core.Path.{◌≡◌}
use mathlib.Core.Bool.{true, false, not, ◌||◌}
use mathlib.Core.List.{[]}
use mathlib.Core.Logic.{◌≢◌, ◌⊎◌}
use Rattle.types.specs.declared.Prover.{Prover}
use Rattle.types.specs.declared.ProverPhase.TheVariants.{New, Committed, Answered, Dropped}
use Rattle.runs.specs.Memory.{no_memory}
use Rattle.runs.specs.Prover.{prover_in}
use Rattle.prover.proofs.States as prover
use Rattle.disjunctions.specs.declared.OrProver.{OrProver}
use Rattle.disjunctions.specs.Prover.{or_prover_in}

module _ (p : OrProver) where
  -- a session of 01 in the same state
  abbrev bare : Prover
  bare = record { phase = p.phase; nonce = []; commitment = []; memory = no_memory }

  -- not New
  pub not_new : p.phase ≢ New → not (or_prover_in New p) ≡ true
  unfolding or_prover_in prover_in
  not_new other = prover.not_new bare other

  -- not Committed
  pub not_committed : p.phase ≢ Committed → not (or_prover_in Committed p) ≡ true
  unfolding or_prover_in prover_in
  not_committed other = prover.not_committed bare other

  -- Answered or Dropped cannot be dropped
  pub not_started : (p.phase ≡ Answered) ⊎ (p.phase ≡ Dropped) → not (or_prover_in New p || or_prover_in Committed p) ≡ true
  unfolding or_prover_in prover_in
  not_started told = prover.not_started bare told

  -- New or Committed can
  pub is_started : (p.phase ≡ New) ⊎ (p.phase ≡ Committed) → not (or_prover_in New p || or_prover_in Committed p) ≡ false
  unfolding or_prover_in prover_in
  is_started told = prover.is_started bare told
