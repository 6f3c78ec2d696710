-- What 02's eighth card asks of verdicts: one that rejects carries exactly the rows whose two sides differ, bit i of a mask for row i.
-- Protocol says the same of the rows as a list, and OneOfTwo of the two sides by their own verdicts; here it is said by bits.
-- Assumes nothing.
use Rattle.std.specs.Prelude.{ℕ, ◌+◌, ◌/◌, ◌%◌, ◌^◌, ◌<◌, ◌≡◌, ◌⊎◌, ◌↔◌, List}
use Rattle.types.specs.declared.Round.{Round}
use Rattle.types.specs.declared.Verdict.{Verdict}
use Rattle.types.specs.declared.Verdict.TheVariants.{Accepted, Rejected}
use Rattle.types.specs.declared.Verifier.{Verifier}
use Rattle.disjunctions.specs.declared.OrRound.{OrRound}
use Rattle.disjunctions.specs.declared.OrVerdict.TheVariants.{OrAccepted, OrRejected}
use Rattle.formats.specs.FileCalls.{FileCalls}
use Rattle.formats.specs.Sheet.{instance_of}
use Rattle.sigma.specs.Answer.{outcome}
use Rattle.sigma.specs.Meaning.{Fits, Holds, RowHolds}
use Rattle.sigma.specs.Reads.{round_of}
use Rattle.runs.specs.RunCalls.{RunCalls}
use Rattle.disjunctions.specs.Knowledge.{Pair}
use Rattle.disjunctions.specs.OneOfTwo.{or_number}
use Rattle.disjunctions.specs.OrCalls.{OrCalls}
use Rattle.disjunctions.specs.Round.{first_round, second_round}

-- bit i of the mask is set exactly if i < s and the two sides of row i differ; so no bit at s or beyond is
abbrev pub Differing : List ℕ → Round → ℕ → Type 0
Differing sheet round mask =
    (i : ℕ) → (mask / 2 ^ i % 2 ≡ 1) ↔ ((i < (instance_of sheet).header.rows) × (¬ RowHolds (instance_of sheet) round i))

-- a verdict is accepted where all rows hold, else rejected with those that differ, at least one
abbrev pub VerdictRows : List ℕ → Round → Verdict → Type 0
VerdictRows sheet round v =
    ((v ≡ Accepted) × Holds (instance_of sheet) round) ⊎
    ((mask : ℕ) × (v ≡ Rejected mask) × (0 < mask) × Differing sheet round mask)

module _ (files : FileCalls) (runs : RunCalls) (either : OrCalls) where
  open files use {load}
  open runs use {judge_round, take_response}
  open either use {judge_or}

  pub record AllRows : Type 0 where
    -- judging a round that fits
    pub judged : (sheet : List ℕ) → (load sheet).refusal ≡ 0 → (round : Round) → Fits (instance_of sheet) round
        → VerdictRows sheet round (judge_round sheet round)
    -- Vic's verdict in a session, on the held commitment, the held challenge and the response
    pub in_session : (sheet : List ℕ) → (load sheet).refusal ≡ 0 → (v : Verifier) (r : List ℕ)
        → (outcome (take_response sheet v r).verdict).number ≡ 0
        → VerdictRows sheet (round_of v.commitment v.challenge r) (take_response sheet v r).verdict
    -- the OR proof's: accepted where all rows of both sides hold, else rejected with those of both that differ; a side whose rows all
    -- hold has the mask 0
    pub both_sides : (s s' : List ℕ) → Pair files s s' → (round : OrRound) → or_number (judge_or s s' round) ≡ 0
        → ((judge_or s s' round ≡ OrAccepted) × Holds (instance_of s) (first_round round)
        × Holds (instance_of s') (second_round (instance_of s).header.challenges round))
        ⊎ ((mask0 : ℕ) × (mask1 : ℕ) × (judge_or s s' round ≡ OrRejected mask0 mask1) × (0 < mask0 + mask1)
        × Differing s (first_round round) mask0 × Differing s' (second_round (instance_of s).header.challenges round) mask1)
