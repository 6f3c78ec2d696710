-- Demand 3 on values, the prover: for every Valid instance, every witness x and every challenge c below K, the honest rounds
-- of x and c over all nonces are exactly the accepted rounds with challenge c, each met once.
-- Assumes nothing.
use Prim.Native.Nat.{ℕ, ◌<◌}
use mathlib.Core.Path.{◌≡◌, refl, sym}
use mathlib.Core.List.{List}
use Rattle.types.specs.declared.Verdict.TheVariants.{Accepted}
use Rattle.groups.specs.Transcript.{honest_transcript}
use Rattle.groups.specs.Vector.{same_vector}
use Rattle.groups.proofs.Simulation.{honest_transcripts}
use Rattle.sigma.specs.Instance.{Instance, table_of}
use Rattle.sigma.specs.Domain.{Domain}
use Rattle.sigma.specs.Judge.{judge_loaded}
use Rattle.sigma.specs.Knowledge.{AcceptedRound, Choice, Witness, honest_on, MeetsEachOnce}
use Rattle.sigma.specs.Valid.{Valid}
use Rattle.sigma.proofs.Homomorphism.{elements_of, image_of, homomorphism}
use Rattle.sigma.proofs.Maurer.{statement_vector, response_value}
use Rattle.sigma.proofs.Transfer.{transfer}

module _ {inst : Instance} (v : Valid inst) (x : List ℕ) (w : Witness inst x) where
  -- the homomorphism carries the witness to the statement
  pub witness_image : (homomorphism v.table).map (x, w.slots) ≡ statement_vector v
  unfolding homomorphism image_of statement_vector
  witness_image = same_vector (elements_of v.table) inst.header.rows _ _ w.carried

  module _ (c : ℕ) (below : c < inst.header.challenges) where
    -- the honest rounds over all nonces are exactly the accepted rounds with challenge c, each met once
    pub honest_rounds : MeetsEachOnce inst.header (Choice inst) (AcceptedRound inst) c (honest_on inst x c)
    unfolding honest_on honest_transcript homomorphism image_of
    honest_rounds =
        let witness : Domain (table_of inst) = (x, w.slots) in
        transfer v c below (honest_transcript (homomorphism v.table) witness c)
        (honest_transcripts (homomorphism v.table) (statement_vector v) c witness witness_image) (honest_on inst x c) (λ k. record {
          commitment = λ i h. refl;
          challenge = refl;
          response = λ j h. sym (response_value v.table c witness k j h);
        })

    -- completeness: the honest round is accepted
    pub honest_accepted : (k : List ℕ) → Choice inst k → judge_loaded inst (honest_on inst x c k) ≡ Accepted
    honest_accepted = honest_rounds.accepted
