-- Peggy and Vic together (01, "Sessions"): a new session each, and their calls in turn, each given what the other answered.
-- Assumes nothing.
use Rattle.std.specs.Prelude.{ℕ, ◌≡◌, List}
use Rattle.types.specs.declared.Round.{Round}
use Rattle.types.specs.declared.Verdict.TheVariants.{Accepted}
use Rattle.types.specs.declared.VerifierStep.{VerifierStep}
use Rattle.types.specs.declared.VerifierVerdict.{VerifierVerdict}
use Rattle.runs.specs.Knowledge.{honest_round}
use Rattle.runs.specs.RunCalls.{RunCalls}

module _ (code : RunCalls) where
  open code use {new_prover, commit, respond, new_verifier, take_commitment, take_challenge, take_response}

  -- Vic takes a round's commitment in a new session
  abbrev pub holding : List ℕ → Round → VerifierStep
  holding sheet round = take_commitment sheet new_verifier round.commitment

  -- then its challenge
  abbrev pub asked : List ℕ → Round → VerifierStep
  asked sheet round = take_challenge sheet (holding sheet round).session round.challenge

  -- and gives the verdict on its response
  abbrev pub told : List ℕ → Round → VerifierVerdict
  told sheet round = take_response sheet (asked sheet round).session round.response

  -- for witness x, challenge c and nonce k none of Peggy's and Vic's calls is refused, and Vic accepts
  pub record JointRun (sheet x : List ℕ) (c : ℕ) (k : List ℕ) : Type 0 where
    pub committed : (commit sheet new_prover k).refusal ≡ 0
    pub held : (holding sheet (honest_round code sheet x c k)).refusal ≡ 0
    pub challenged : (asked sheet (honest_round code sheet x c k)).refusal ≡ 0
    pub responded : (respond sheet (commit sheet new_prover k).session c x).refusal ≡ 0
    pub accepted : (told sheet (honest_round code sheet x c k)).verdict ≡ Accepted
