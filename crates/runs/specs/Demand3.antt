-- Demand 3 (00) in the words of 01 ("A round"), of one sheet's bytes.
-- Assumes nothing.
use Rattle.std.specs.Prelude.{ℕ, ◌≡◌, List}
use Rattle.types.specs.declared.Round.{Round}
use Rattle.formats.specs.Sheet.{instance_of}
use Rattle.sigma.specs.Knowledge.{Choice, Witness, MeetsEachOnce, AcceptedPair, Extraction}
use Rattle.runs.specs.Knowledge.{Accepts, honest_round, simulated_round}
use Rattle.runs.specs.OnSheet.{Below}
use Rattle.runs.specs.RunCalls.{RunCalls}

module _ (code : RunCalls) where
  open code use {simulate_commitment, extract_witness, new_prover, commit, respond}

  -- demand 3 of a sheet
  pub record Demand3 (sheet : List ℕ) : Type 0 where
    -- from any two accepted rounds with equal commitments and different challenges, the extractor gives by 01's formula a
    -- witness that the table carries to the statement, the same one with the rounds swapped
    pub extractor : (first second : Round) → AcceptedPair (instance_of sheet).header (Accepts code sheet) first second
        → Extraction (instance_of sheet) (extract_witness sheet) first second
    -- for every challenge c below the count: the simulator refuses no choice of n domain slots as a response
    pub simulator_runs : (c : ℕ) → Below sheet c → (r : List ℕ) → Choice (instance_of sheet) r
        → (simulate_commitment sheet c r).refusal ≡ 0
    -- and the simulated rounds over all responses are exactly the accepted rounds with challenge c, each met once
    pub simulator : (c : ℕ) → Below sheet c
        → MeetsEachOnce (instance_of sheet).header (Choice (instance_of sheet)) (Accepts code sheet) c (simulated_round code sheet c)
    -- for every witness x besides: Peggy refuses neither a choice of n domain slots as a nonce, nor c and x thereafter
    pub prover_runs : (c : ℕ) → Below sheet c → (x : List ℕ) → Witness (instance_of sheet) x → (k : List ℕ)
        → Choice (instance_of sheet) k
        → ((commit sheet new_prover k).refusal ≡ 0) × ((respond sheet (commit sheet new_prover k).session c x).refusal ≡ 0)
    -- and the honest rounds of x and c over all nonces are those same rounds, each met once
    pub prover : (c : ℕ) → Below sheet c → (x : List ℕ) → Witness (instance_of sheet) x
        → MeetsEachOnce (instance_of sheet).header (Choice (instance_of sheet)) (Accepts code sheet) c (honest_round code sheet x c)
