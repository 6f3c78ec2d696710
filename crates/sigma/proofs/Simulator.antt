-- Demand 3 on values, the simulator: for every Valid instance and every challenge c below K, the simulated rounds over all
-- responses are exactly the accepted rounds with challenge c, each met once. No witness is assumed.
-- Assumes nothing.
use Prim.Native.Nat.{ℕ, ◌<◌}
use mathlib.Core.Path.{◌≡◌, refl, sym, ap, ◌∙◌}
use mathlib.Core.List.{List}
use Rattle.lists.specs.Places.{pad8}
use Rattle.lists.proofs.Each.{each_at, each_length}
use Rattle.lists.proofs.Places.{places_whole}
use Rattle.groups.specs.Transcript.{simulated_transcript}
use Rattle.groups.proofs.Simulation.{simulated_transcripts}
use Rattle.sigma.specs.Instance.{Instance}
use Rattle.sigma.specs.Knowledge.{AcceptedRound, Choice, simulated_on, MeetsEachOnce}
use Rattle.sigma.specs.Simulator.{simulated, simulate_loaded}
use Rattle.sigma.specs.Valid.{Valid}
use Rattle.sigma.proofs.Calls.{simulate_runs, simulate_given}
use Rattle.sigma.proofs.Homomorphism.{homomorphism}
use Rattle.sigma.proofs.Maurer.{statement_vector, simulated_value}
use Rattle.sigma.proofs.Transfer.{transfer}

module _ {inst : Instance} (v : Valid inst) (c : ℕ) (below : c < inst.header.challenges) where
  -- the simulated rounds over all responses are exactly the accepted rounds with challenge c, each met once
  pub simulated_rounds : MeetsEachOnce inst.header (Choice inst) (AcceptedRound inst) c (simulated_on inst c)
  unfolding simulated_on simulated_transcript
  simulated_rounds =
      transfer v c below (simulated_transcript (homomorphism v.table) (statement_vector v) c) (simulated_transcripts (homomorphism v.table) (statement_vector v) c)
      (simulated_on inst c) (λ r. record {
        commitment = λ i h. sym (simulated_value v c r i h);
        challenge = refl;
        response = λ j h. refl;
      })

  -- the simulator's call gives the commitment of the simulated round
  pub simulate_answer : (r : List ℕ) → Choice inst r
      → simulate_loaded inst c r ≡ record { refusal = 0; values = pad8 0 (simulated_on inst c r).commitment }
  unfolding simulated_on
  simulate_answer r slots =
      simulate_given inst c r ((simulate_runs inst c r).1 (below, each_at _ _ r slots))
      ∙ ap (λ (ys : List ℕ). record { refusal = 0; values = pad8 0 (simulated inst c ys) })
      (places_whole inst.header.columns r (each_length _ _ r slots))
