-- When the calls of the OR proof (02, card 4) are not refused, for any bytes and numbers: said by 01's calls on the two sides, by
-- accepted rounds and by what committing answers, and not by the list of conditions.
-- Assumes nothing.
use Rattle.std.specs.Prelude.{ℕ, ◌<◌, ◌≡◌, ◌↔◌, ◌⊎◌, List}
use Rattle.types.specs.declared.ProverPhase.TheVariants.{Committed, New}
use Rattle.disjunctions.specs.declared.OrProver.{OrProver}
use Rattle.disjunctions.specs.declared.OrRound.{OrRound}
use Rattle.disjunctions.specs.declared.OrStep.{OrStep}
use Rattle.formats.specs.FileCalls.{FileCalls}
use Rattle.formats.specs.Sheet.{instance_of}
use Rattle.runs.specs.OnSheet.{Below, read_slots}
use Rattle.runs.specs.RunCalls.{RunCalls}
use Rattle.sigma.specs.Answer.{outcome}
use Rattle.sigma.specs.Knowledge.{Witness}
use Rattle.sigma.specs.Reads.{Agree}
use Rattle.disjunctions.specs.Knowledge.{AcceptedOrPair, Pair}
use Rattle.disjunctions.specs.OneOfTwo.{or_number}
use Rattle.disjunctions.specs.OrCalls.{OrCalls}
use Rattle.disjunctions.specs.Prover.{other, own}
use Rattle.disjunctions.specs.Round.{first_round, second_round}

-- a step of committing is not refused, and answers both commitments that a session holds, in all eight places
abbrev pub Makes : OrStep → OrProver → Type 0
Makes step p = (step.refusal ≡ 0) × Agree 8 step.values0 p.commitment0 × Agree 8 step.values1 p.commitment1

module _ (files : FileCalls) (code : RunCalls) (either : OrCalls) where
  open code use {commit, judge_round, new_prover, simulate_commitment}
  open either use {commit_or, drop_or, extract_or, judge_or, new_or_prover, respond_or}

  pub record EitherRuns : Type 0 where
    -- judging: the sheets load with one K, c is below K, and 01's judging call refuses neither side's round
    pub judges : (s s' : List ℕ) (round : OrRound) → (or_number (judge_or s s' round) ≡ 0)
        ↔ (Pair files s s' × Below s round.challenge × ((outcome (judge_round s (first_round round))).number ≡ 0)
        × ((outcome (judge_round s' (second_round (instance_of s).header.challenges round))).number ≡ 0))
    -- extracting: both rounds are accepted, with the same commitments and different challenges
    pub extracts : (s s' : List ℕ) (a b : OrRound)
        → ((extract_or s s' a b).refusal ≡ 0) ↔ (Pair files s s' × AcceptedOrPair either s s' a b)
    -- refused or not, the rounds exchanged give the same number
    pub swapped : (s s' : List ℕ) (a b : OrRound) → (extract_or s s' b a).refusal ≡ (extract_or s s' a b).refusal
    -- committing: in New, if 01's calls commit to the nonce on the own side and simulate on the other
    pub commits : (s s' : List ℕ) (p : OrProver) (side d : ℕ) (k r : List ℕ) → ((commit_or s s' p side k d r).refusal ≡ 0)
        ↔ (Pair files s s' × (p.phase ≡ New) × ((commit (own side s s') new_prover k).refusal ≡ 0)
        × ((simulate_commitment (other side s s') d r).refusal ≡ 0))
    -- responding: in Committed with a held side of 0 or 1, to a challenge below K with a witness of that side, if committing to the
    -- held values in a new session answers the held commitments
    pub responds : (s s' : List ℕ) (p : OrProver) (c : ℕ) (x : List ℕ) → ((respond_or s s' p c x).refusal ≡ 0)
        ↔ (Pair files s s' × (p.phase ≡ Committed) × (p.side < 2) × Below s c
        × Witness (instance_of (own p.side s s')) (read_slots (own p.side s s') x)
        × Makes (commit_or s s' new_or_prover p.side p.nonce p.challenge p.response) p)
    -- dropping: in New or Committed
    pub drops : (p : OrProver) → ((drop_or p).refusal ≡ 0) ↔ ((p.phase ≡ New) ⊎ (p.phase ≡ Committed))
