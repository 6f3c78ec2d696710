-- What follows from the demands on rounds and sessions and is no sentence of 00 to 02: no answer depends on places that are not
-- read, the first row of a verdict is 01's row, and demand 3's lists of rounds.
-- Assumes nothing.
use Rattle.std.specs.Prelude.{ℕ, ◌≡◌, ◌↔◌, List, ◌∷◌, map}
use Rattle.types.specs.declared.Prover.{Prover}
use Rattle.types.specs.declared.Round.{Round}
use Rattle.types.specs.declared.Verifier.{Verifier}
use Rattle.lists.specs.Member.{Member, EachOnce}
use Rattle.formats.specs.FileCalls.{FileCalls}
use Rattle.formats.specs.Sheet.{header_of, instance_of}
use Rattle.sigma.specs.Answer.{outcome}
use Rattle.sigma.specs.Knowledge.{Choice, Witness}
use Rattle.sigma.specs.Listed.{all_choices, ListsAccepted}
use Rattle.sigma.specs.Meaning.{FailsFirst}
use Rattle.sigma.specs.Reads.{padded_round}
use Rattle.runs.specs.Knowledge.{Accepts, honest_round, simulated_round}
use Rattle.runs.specs.OnSheet.{Below, read_prover, read_slots, read_values, read_verifier}
use Rattle.runs.specs.RunCalls.{RunCalls}

module _ (code : RunCalls) where
  open code use {judge_round, simulate_commitment, extract_witness, commit, respond}
  open code use {take_commitment, take_challenge, take_response}

  -- unread places are no part of a nonce, witness, response or round: a call answers what it answers to the places that are read
  pub record ReadAlone (sheet : List ℕ) : Type 0 where
    pub honest : (x : List ℕ) (c : ℕ) (k : List ℕ)
        → honest_round code sheet x c k ≡ honest_round code sheet (read_slots sheet x) c (read_slots sheet k)
    pub simulated : (c : ℕ) (r : List ℕ) → simulate_commitment sheet c r ≡ simulate_commitment sheet c (read_slots sheet r)
    pub judged : (round : Round) → judge_round sheet round ≡ judge_round sheet (padded_round (header_of sheet) round)
    pub extracted : (first second : Round)
        → extract_witness sheet first second
        ≡ extract_witness sheet (padded_round (header_of sheet) first) (padded_round (header_of sheet) second)

  -- unread places are no part of a nonce, witness, commitment or response, brought or held: a call answers what it answers to
  -- the places that are read
  pub record SessionsReadAlone (sheet : List ℕ) : Type 0 where
    pub committed : (p : Prover) (k : List ℕ) → commit sheet p k ≡ commit sheet p (read_slots sheet k)
    pub responded : (p : Prover) (c : ℕ) (x : List ℕ) → respond sheet p c x ≡ respond sheet p c (read_slots sheet x)
    pub responded_held : (p : Prover) (c : ℕ) (x : List ℕ)
        → ((respond sheet p c x).refusal ≡ (respond sheet (read_prover sheet p) c x).refusal)
        × ((respond sheet p c x).values ≡ (respond sheet (read_prover sheet p) c x).values)
    pub commitment : (v : Verifier) (t : List ℕ) → take_commitment sheet v t ≡ take_commitment sheet v (read_values sheet t)
    pub challenge_held : (v : Verifier) (c : ℕ)
        → (take_challenge sheet v c).refusal ≡ (take_challenge sheet (read_verifier sheet v) c).refusal
    pub response : (v : Verifier) (r : List ℕ) → take_response sheet v r ≡ take_response sheet v (read_slots sheet r)
    pub response_held : (v : Verifier) (r : List ℕ)
        → (take_response sheet v r).verdict ≡ (take_response sheet (read_verifier sheet v) r).verdict

  -- demand 3 of a sheet, read as lists
  pub record RoundsListed (sheet : List ℕ) : Type 0 where
    -- all choices of n domain slots are listed, each once
    pub choices : ((x : List ℕ) → Member x (all_choices (instance_of sheet)) ↔ Choice (instance_of sheet) x)
        × EachOnce (all_choices (instance_of sheet))
    -- over this list the simulated rounds are the accepted rounds with challenge c, each once
    pub simulator_list : (c : ℕ) → Below sheet c
        → ListsAccepted (padded_round (instance_of sheet).header) (Accepts code sheet) c
        (map (simulated_round code sheet c) (all_choices (instance_of sheet)))
    -- so are the honest rounds of every witness
    pub prover_list : (c : ℕ) → Below sheet c → (x : List ℕ) → Witness (instance_of sheet) x
        → ListsAccepted (padded_round (instance_of sheet).header) (Accepts code sheet) c
        (map (honest_round code sheet x c) (all_choices (instance_of sheet)))
    -- so that both lists have the same rounds
    pub same_list : (c : ℕ) → Below sheet c → (x : List ℕ) → Witness (instance_of sheet) x → (round : Round)
        → Member round (map (honest_round code sheet x c) (all_choices (instance_of sheet)))
        ↔ Member round (map (simulated_round code sheet c) (all_choices (instance_of sheet)))

module _ (files : FileCalls) (code : RunCalls) where
  open files use {load}
  open code use {judge_round}

  pub record RunCorollaries : Type 0 where
    -- places beyond s and n play no part in a round
    pub read_alone : (sheet : List ℕ) → ReadAlone code sheet
    -- nor in a session
    pub sessions_read_alone : (sheet : List ℕ) → SessionsReadAlone code sheet
    -- 01's row, the first whose two sides differ, is the first that a verdict names
    pub first_row : (sheet : List ℕ) → (load sheet).refusal ≡ 0 → (round : Round) → (outcome (judge_round sheet round)).number ≡ 0
        → (row : ℕ) → FailsFirst (instance_of sheet) round row
        ↔ ((others : List ℕ) × ((outcome (judge_round sheet round)).values ≡ 0 ∷ row ∷ others))
    -- the lists of a sheet that loads
    pub listed : (sheet : List ℕ) → (load sheet).refusal ≡ 0 → RoundsListed code sheet
