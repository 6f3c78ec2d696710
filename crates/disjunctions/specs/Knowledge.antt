-- The words of card 4 (02) on two sheets' bytes: accepted rounds, the rounds that Peggy makes with a witness of one side, and what
-- it means that these are exactly the accepted ones, each made from a single choice.
-- Assumes nothing.
use Rattle.std.specs.Prelude.{ℕ, ◌≡◌, ◌≢◌, List}
use Rattle.types.specs.declared.Round.{Round}
use Rattle.disjunctions.specs.declared.OrRound.{OrRound}
use Rattle.disjunctions.specs.declared.OrStep.{OrStep}
use Rattle.disjunctions.specs.declared.OrVerdict.TheVariants.{OrAccepted}
use Rattle.formats.specs.FileCalls.{FileCalls}
use Rattle.formats.specs.Sheet.{instance_of}
use Rattle.runs.specs.OnSheet.{Below}
use Rattle.runs.specs.RunCalls.{RunCalls}
use Rattle.sigma.specs.Knowledge.{Choice, Extraction}
use Rattle.sigma.specs.Reads.{Agree}
use Rattle.disjunctions.specs.OrCalls.{OrCalls}
use Rattle.disjunctions.specs.Prover.{other, own}
use Rattle.disjunctions.specs.Round.{read_or}

module _ (files : FileCalls) where
  open files use {load}

  -- two sheets that load with one K
  pub record Pair (s s' : List ℕ) : Type 0 where
    pub first_loads : (load s).refusal ≡ 0
    pub second_loads : (load s').refusal ≡ 0
    pub one_count : (instance_of s).header.challenges ≡ (instance_of s').header.challenges

-- two rounds are the same: all that is read of them is equal
abbrev pub SameOr : List ℕ → List ℕ → OrRound → OrRound → Type 0
SameOr s s' a b = read_or (instance_of s) (instance_of s') a ≡ read_or (instance_of s) (instance_of s') b

-- what Peggy chooses: a nonce, and a simulated challenge and response
pub record OrChoice : Type 0 where
  pub nonce : List ℕ
  pub challenge : ℕ
  pub response : List ℕ

-- a choice is one of the side: n slots of its own sheet as the nonce, a challenge below K, and n slots of the other sheet
pub record IsOrChoice (s s' : List ℕ) (side : ℕ) (choice : OrChoice) : Type 0 where
  pub nonce : Choice (instance_of (own side s s')) choice.nonce
  pub challenge : Below s choice.challenge
  pub response : Choice (instance_of (other side s s')) choice.response

module _ (either : OrCalls) where
  open either use {commit_or, judge_or, new_or_prover, respond_or}

  -- a round is accepted
  abbrev pub AcceptsOr : List ℕ → List ℕ → OrRound → Type 0
  AcceptsOr s s' round = judge_or s s' round ≡ OrAccepted

  -- the round that Peggy makes with the witness x of a side for the challenge c: the commitments that she answers for her choice in a
  -- new session, and what she answers when the session then handed back gets c and x
  abbrev pub or_round : List ℕ → List ℕ → ℕ → List ℕ → ℕ → OrChoice → OrRound
  or_round s s' side x c choice =
      let committed : OrStep = commit_or s s' new_or_prover side choice.nonce choice.challenge choice.response in
      let responded : OrStep = respond_or s s' committed.session c x in
      record {
        commitment0 = committed.values0;
        commitment1 = committed.values1;
        response0 = responded.values0;
        response1 = responded.values1;
        challenge = c;
        challenge0 = responded.challenge0;
      }

  -- the rounds made over all choices of a side are exactly the accepted rounds with challenge c, each from a single choice
  pub record MakesEachOnce (s s' : List ℕ) (side c : ℕ) (make : OrChoice → OrRound) : Type 0 where
    pub challenged : (choice : OrChoice) → IsOrChoice s s' side choice → (make choice).challenge ≡ c
    pub accepted : (choice : OrChoice) → IsOrChoice s s' side choice → AcceptsOr s s' (make choice)
    pub met : (round : OrRound) → round.challenge ≡ c → AcceptsOr s s' round
        → (choice : OrChoice) × IsOrChoice s s' side choice × SameOr s s' (make choice) round
    pub once : (a b : OrChoice) → IsOrChoice s s' side a → IsOrChoice s s' side b → SameOr s s' (make a) (make b) → a ≡ b

  -- two accepted rounds with the same commitments and different challenges
  pub record AcceptedOrPair (s s' : List ℕ) (a b : OrRound) : Type 0 where
    pub first_accepted : AcceptsOr s s' a
    pub second_accepted : AcceptsOr s s' b
    pub first_commitments : Agree (instance_of s).header.rows a.commitment0 b.commitment0
    pub second_commitments : Agree (instance_of s').header.rows a.commitment1 b.commitment1
    pub challenges : a.challenge ≢ b.challenge

module _ (code : RunCalls) (either : OrCalls) where
  open code use {extract_witness}
  open either use {extract_or}

  -- the OR extractor answers for two rounds what 01's extractor answers for their rounds of one side: a witness of that sheet by 01's
  -- formula, with the side's number, and the same with the rounds swapped
  pub record ExtractsSide (s s' sheet : List ℕ) (side : ℕ) (part : OrRound → Round) (a b : OrRound) : Type 0 where
    pub extraction : Extraction (instance_of sheet) (extract_witness sheet) (part a) (part b)
    pub answer : extract_or s s' a b ≡ record { values = (extract_witness sheet (part a) (part b)).values; side = side; refusal = 0 }
    pub swapped : extract_or s s' b a ≡ extract_or s s' a b
