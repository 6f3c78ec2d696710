-- Peggy against Vic (02, card 12): which challenges a commitment answers, and what that says of the statement. For every sheet that
-- loads, of both kinds, small or not.
-- Assumes nothing.
use Rattle.std.specs.Prelude.{ℕ, ◌≡◌, ◌↔◌, ◌⊎◌, List}
use Rattle.formats.specs.Sheet.{instance_of}
use Rattle.runs.specs.Knowledge.{Accepts}
use Rattle.runs.specs.OnSheet.{Below}
use Rattle.runs.specs.RunCalls.{RunCalls}
use Rattle.sigma.specs.Knowledge.{Witness}
use Rattle.sigma.specs.Reads.{round_of}

-- the statement has a witness
abbrev pub HasWitness : List ℕ → Type 0
HasWitness sheet = (x : List ℕ) × Witness (instance_of sheet) x

module _ (runs : RunCalls) where
  -- Peggy, who has named t, can answer the challenge c: some response makes a round that 01's judging call accepts
  abbrev pub Answers : List ℕ → List ℕ → ℕ → Type 0
  Answers sheet t c = (r : List ℕ) × Accepts runs sheet (round_of t c r)

  -- she can answer every challenge below K
  abbrev pub AnswersAll : List ℕ → List ℕ → Type 0
  AnswersAll sheet t = (c : ℕ) → Below sheet c → Answers sheet t c

  pub record Game (sheet : List ℕ) : Type 0 where
    -- Peggy can name a t that answers every challenge exactly if the statement has a witness
    pub winning : ((t : List ℕ) × AnswersAll sheet t) ↔ HasWitness sheet
    -- without one, each t answers at most one challenge
    pub at_most_one : ¬ HasWitness sheet → (t : List ℕ) (c c' : ℕ) → Answers sheet t c → Answers sheet t c' → c ≡ c'
    -- with one, a t answers all or none
    pub all_or_none : HasWitness sheet → (t : List ℕ) → AnswersAll sheet t ⊎ ((c : ℕ) → ¬ Answers sheet t c)
