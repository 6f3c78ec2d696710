-- Demand 2's protocol (00) in the words of 01 ("A round"), for a sheet: Peggy's commitments and responses and Vic's verdicts.
-- When a call is refused is demand 1.
-- Assumes nothing.
use Rattle.std.specs.Prelude.{ℕ, ◌+◌, ◌*◌, ◌%◌, ◌^◌, ◌<◌, ◌≤◌, ◌≡◌, ◌↔◌, ◌⊎◌, List, get_or, length}
use Rattle.types.specs.declared.Prover.{Prover}
use Rattle.types.specs.declared.Round.{Round}
use Rattle.types.specs.declared.Verdict.TheVariants.{Accepted, Rejected}
use Rattle.types.specs.declared.Verifier.{Verifier}
use Rattle.formats.specs.Sheet.{instance_of}
use Rattle.sigma.specs.Answer.{outcome, rows_of}
use Rattle.sigma.specs.Image.{row_image}
use Rattle.sigma.specs.Instance.{table_of}
use Rattle.sigma.specs.Knowledge.{Choice, Witness}
use Rattle.sigma.specs.Meaning.{Holds, FailsExactly}
use Rattle.sigma.specs.Reads.{round_of}
use Rattle.runs.specs.JointRun.{JointRun}
use Rattle.runs.specs.OnSheet.{read_slots, Below}
use Rattle.runs.specs.RunCalls.{RunCalls}

module _ (code : RunCalls) where
  open code use {judge_round, commit, respond, take_response}

  -- the verdict on a round that is not refused
  pub record JudgesByRows (sheet : List ℕ) (round : Round) : Type 0 where
    -- it is accepted exactly where [r]_i = t_i · z_i^c mod m in every row i
    pub accepted : (judge_round sheet round ≡ Accepted) ↔ Holds (instance_of sheet) round
    -- and rejected with a mask exactly where its rows are those whose two sides differ and no bit at s or beyond is set
    pub rejected : (mask : ℕ) → (judge_round sheet round ≡ Rejected mask)
        ↔ (FailsExactly (instance_of sheet) round (rows_of mask) × (mask < 2 ^ (instance_of sheet).header.rows))
    -- it is one of the two
    pub decided : (judge_round sheet round ≡ Accepted) ⊎ ((mask : ℕ) × (judge_round sheet round ≡ Rejected mask))

  -- the protocol on a sheet
  pub record Protocol (sheet : List ℕ) : Type 0 where
    -- Peggy's commitment to a nonce k in a session p is [k], row by row
    pub commitment : (p : Prover) (k : List ℕ) → (commit sheet p k).refusal ≡ 0 → (i : ℕ) → i < (instance_of sheet).header.rows
        → get_or (commit sheet p k).values i 0 ≡ row_image (table_of (instance_of sheet)) k i
    -- her response to a challenge c with a witness x in a session p is, slot by slot, k + c·x mod q in kind 1
    pub exponent_response : (instance_of sheet).header.kind ≡ 1 → (p : Prover) (c : ℕ) (x : List ℕ) → (respond sheet p c x).refusal ≡ 0
        → (j : ℕ) → j < (instance_of sheet).header.columns
        → get_or (respond sheet p c x).values j 0 ≡ (get_or p.nonce j 0 + c * get_or x j 0) % (instance_of sheet).header.order
    -- and k·x^c mod m in kind 2
    pub root_response : (instance_of sheet).header.kind ≡ 2 → (p : Prover) (c : ℕ) (x : List ℕ) → (respond sheet p c x).refusal ≡ 0
        → (j : ℕ) → j < (instance_of sheet).header.columns
        → get_or (respond sheet p c x).values j 0 ≡ get_or p.nonce j 0 * get_or x j 0 ^ c % (instance_of sheet).header.modulus
    -- what she answers stands in eight places, and those beyond s and beyond n are 0
    pub commitment_eight : (p : Prover) (k : List ℕ) → length (commit sheet p k).values ≡ 8
    pub response_eight : (p : Prover) (c : ℕ) (x : List ℕ) → length (respond sheet p c x).values ≡ 8
    pub beyond_rows : (p : Prover) (k : List ℕ) (i : ℕ) → (instance_of sheet).header.rows ≤ i
        → get_or (commit sheet p k).values i 0 ≡ 0
    pub beyond_columns : (p : Prover) (c : ℕ) (x : List ℕ) (j : ℕ) → (instance_of sheet).header.columns ≤ j
        → get_or (respond sheet p c x).values j 0 ≡ 0
    -- the verdicts of the call that judges rounds
    pub verdicts : (round : Round) → (outcome (judge_round sheet round)).number ≡ 0 → JudgesByRows sheet round
    -- Vic's verdict is what judging answers on the held commitment, the held challenge and the response
    pub verifier : (v : Verifier) (r : List ℕ) → (outcome (take_response sheet v r).verdict).number ≡ 0
        → (take_response sheet v r).verdict ≡ judge_round sheet (round_of v.commitment v.challenge r)
    -- both boxes together: for a witness, a nonce of domain slots and a challenge below K no call is refused and Vic accepts
    pub joint_run : (x k : List ℕ) (c : ℕ) → Witness (instance_of sheet) (read_slots sheet x)
        → Choice (instance_of sheet) (read_slots sheet k) → Below sheet c
        → JointRun code sheet x c k
