-- What 02's fourth card asks, with all rows that differ (card 8): judging, extracting and proving "I know one of the two", for every
-- two sheets that load with one K, and the refusals and the session for any bytes.
-- Assumes nothing.
use Rattle.std.specs.Prelude.{ℕ, suc, ◌+◌, ◌%◌, ◌<◌, ◌≤◌, ◌≡◌, ◌↔◌, ◌≢◌, ◌⊎◌, length, replicate}
use mathlib.Core.List.{List, [], ◌∷◌, ◌++◌, flatten, map}
use Rattle.types.specs.declared.ProverPhase.TheVariants.{Committed, New}
use Rattle.types.specs.declared.Round.{Round}
use Rattle.types.specs.declared.Verdict.TheVariants.{Rejected}
use Rattle.disjunctions.specs.declared.OrProver.{OrProver}
use Rattle.disjunctions.specs.declared.OrRound.{OrRound}
use Rattle.disjunctions.specs.declared.OrStep.{OrStep}
use Rattle.disjunctions.specs.declared.OrVerdict.{OrVerdict}
use Rattle.disjunctions.specs.declared.OrVerdict.TheVariants.{OrAccepted, OrRejected, OrRefused}
use Rattle.lists.specs.Places.{pad8, zeros8}
use Rattle.rules.specs.Condition.{Condition}
use Rattle.rules.specs.Order.{sheet_numbers}
use Rattle.rules.specs.Refuses.{Refuses}
use Rattle.formats.specs.FileCalls.{FileCalls}
use Rattle.formats.specs.Sheet.{instance_of}
use Rattle.runs.specs.Knowledge.{Accepts}
use Rattle.runs.specs.OnSheet.{Below, read_slots}
use Rattle.runs.specs.ProverCalls.{Ended}
use Rattle.runs.specs.Run.{Leads, answered}
use Rattle.runs.specs.RunCalls.{RunCalls}
use Rattle.sigma.specs.Answer.{Outcome, rows_of}
use Rattle.sigma.specs.Knowledge.{Witness}
use Rattle.sigma.specs.Meaning.{FailsFirst}
use Rattle.sigma.specs.Reads.{round_of}
use Rattle.disjunctions.specs.Calls.{OrCall, OrMoves, Wiped, or_after, or_challenges_of, or_trace}
use Rattle.disjunctions.specs.Knowledge.{
  AcceptedOrPair,
  AcceptsOr,
  ExtractsSide,
  IsOrChoice,
  MakesEachOnce,
  OrChoice,
  Pair,
  or_round,
}
use Rattle.disjunctions.specs.OrCalls.{OrCalls}
use Rattle.disjunctions.specs.Prover.{other, own}
use Rattle.disjunctions.specs.Refusals.{
  commit_or_conditions,
  drop_or_conditions,
  extract_or_conditions,
  judge_or_conditions,
  pair_conditions,
  respond_or_conditions,
}
use Rattle.disjunctions.specs.Round.{first_round, other_challenge, second_round}

-- the rows of a side's mask, each behind the side's number
unfoldable pub side_rows : ℕ → ℕ → List ℕ
side_rows side mask = flatten (map (λ row. side ∷ row ∷ []) (rows_of mask))

-- a verdict's outcome: 1 for accepted, 0 with the differing rows of both sides
unfoldable pub or_outcome : OrVerdict → Outcome
or_outcome OrAccepted = record { number = 0; values = 1 ∷ [] }
or_outcome (OrRejected mask0 mask1) = record { number = 0; values = 0 ∷ side_rows 0 mask0 ++ side_rows 1 mask1 }
or_outcome (OrRefused number) = record { number = number; values = [] }

-- the number that a verdict is refused with, 0 for none
unfoldable pub or_number : OrVerdict → ℕ
or_number v = (or_outcome v).number

-- a call on two sheets: 2 to 11 of either and 26 come first, then the call's own
abbrev pub RefusesOnPair : List ℕ → List ℕ → List ℕ → List Condition → ℕ → Type 0 → Type 0
RefusesOnPair s s' numbers conditions n Left =
    Refuses (sheet_numbers ++ 26 ∷ numbers) (pair_conditions s s' ++ conditions) n Left

-- a call hands back the session as it was, and zeros
abbrev pub OrUnmoved : OrProver → OrStep → Type 0
OrUnmoved p step = (step.session ≡ p) × (step.values0 ≡ zeros8) × (step.values1 ≡ zeros8) × (step.challenge0 ≡ 0)

-- the outcomes of the three verdicts, in numbers
pub record OrOutcomes : Type 0 where
  pub accepted : or_outcome OrAccepted ≡ record { number = 0; values = 1 ∷ [] }
  pub rejected : (mask0 mask1 : ℕ) → or_outcome (OrRejected mask0 mask1)
      ≡ record {
        number = 0;
        values = 0 ∷ flatten (map (λ row. 0 ∷ row ∷ []) (rows_of mask0)) ++ flatten (map (λ row. 1 ∷ row ∷ []) (rows_of mask1));
      }
  pub refused : (number : ℕ) → or_outcome (OrRefused number) ≡ record { number = number; values = [] }

module _ (either : OrCalls) where
  open either use {commit_or, drop_or, extract_or, judge_or, new_or_prover, respond_or}

  -- the refusals, for any bytes and numbers
  pub record OrRefusals : Type 0 where
    -- judging; a refused round's verdict is the number
    pub judging : (s s' : List ℕ) (round : OrRound)
        → RefusesOnPair s s' (14 ∷ 15 ∷ 16 ∷ []) (judge_or_conditions (instance_of s) (instance_of s') round)
        (or_number (judge_or s s' round)) (judge_or s s' round ≡ OrRefused (or_number (judge_or s s' round)))
    -- extracting; a refused call gives zeros beside the number
    pub extracting : (s s' : List ℕ) (a b : OrRound)
        → RefusesOnPair s s' (14 ∷ 15 ∷ 16 ∷ 18 ∷ 19 ∷ 20 ∷ []) (extract_or_conditions (instance_of s) (instance_of s') a b)
        (extract_or s s' a b).refusal (((extract_or s s' a b).values ≡ zeros8) × ((extract_or s s' a b).side ≡ 0))
    -- the calls on the session; a refused call hands back the same session
    pub committing : (s s' : List ℕ) (p : OrProver) (side : ℕ) (k : List ℕ) (d : ℕ) (r : List ℕ)
        → RefusesOnPair s s' (15 ∷ 16 ∷ 21 ∷ []) (commit_or_conditions (instance_of s) (instance_of s') p side k d r)
        (commit_or s s' p side k d r).refusal (OrUnmoved p (commit_or s s' p side k d r))
    pub responding : (s s' : List ℕ) (p : OrProver) (c : ℕ) (x : List ℕ)
        → RefusesOnPair s s' (15 ∷ 16 ∷ 17 ∷ 21 ∷ []) (respond_or_conditions (instance_of s) (instance_of s') p c x)
        (respond_or s s' p c x).refusal (OrUnmoved p (respond_or s s' p c x))
    pub dropping : (p : OrProver) → Refuses (21 ∷ []) (drop_or_conditions p) (drop_or p).refusal (OrUnmoved p (drop_or p))

  -- the session, over any list of calls with any sheets
  pub record OrSessions : Type 0 where
    -- as an argument and held, every side but 0 is 1
    pub sides : (n : ℕ) (first second : List ℕ)
        → (own 0 first second ≡ first) × (own (suc n) first second ≡ second)
        × (other 0 first second ≡ second) × (other (suc n) first second ≡ first)
    -- a new session holds zeros
    pub new : new_or_prover
        ≡ record {
          nonce = replicate 8 0;
          response = replicate 8 0;
          commitment0 = replicate 8 0;
          commitment1 = replicate 8 0;
          challenge = 0;
          side = 0;
          phase = New;
        }
    -- the calls that are carried out lead from the session to the one at the end; a refused call changes nothing
    pub in_order : (calls : List OrCall) (p : OrProver) → Leads (λ step. step.session) OrMoves p (or_trace either calls p) (or_after either calls p)
    -- at most one challenge is answered
    pub once : (calls : List OrCall) (p : OrProver) → length (answered or_challenges_of (or_trace either calls p)) ≤ 1
    -- a session that the calls have led to Answered or Dropped holds zeros but for the commitments
    pub wiped : (calls : List OrCall) (p : OrProver) → ¬ Ended p.phase → Ended (or_after either calls p).phase
        → Wiped (or_after either calls p)
    -- one that is Answered or Dropped carries out no call and stays as it is
    pub ended : (calls : List OrCall) (p : OrProver) → Ended p.phase → (or_trace either calls p ≡ []) × (or_after either calls p ≡ p)

module _ (code : RunCalls) where
  open code use {judge_round}

  -- the mask of a side is that of its rejected round, and 0 where the round is accepted
  abbrev pub SideMask : List ℕ → Round → ℕ → Type 0
  SideMask s round mask = (Accepts code s round × (mask ≡ 0)) ⊎ (judge_round s round ≡ Rejected mask)

module _ (code : RunCalls) (either : OrCalls) where
  open code use {commit, new_prover, respond, simulate_commitment}
  open either use {commit_or, judge_or, new_or_prover, respond_or}

  -- the proof, of two sheets that load with one K
  pub record OneOfTwo (s s' : List ℕ) : Type 0 where
    -- c1 is the one challenge below K that gives c together with c0, modulo K
    pub challenges : (c c0 : ℕ) → Below s c → Below s c0
        → Below s (other_challenge (instance_of s).header.challenges c c0)
        × ((c0 + other_challenge (instance_of s).header.challenges c c0) % (instance_of s).header.challenges ≡ c)
    -- side 0 of a round is (t0, c0, r0), and side 1 (t1, c1, r1)
    pub sides : (round : OrRound)
        → (first_round round ≡ round_of round.commitment0 round.challenge0 round.response0)
        × (second_round (instance_of s).header.challenges round
        ≡ round_of round.commitment1 (other_challenge (instance_of s).header.challenges round.challenge round.challenge0)
        round.response1)
    -- a round is accepted exactly where c is below K and both sides' rounds are accepted by 01's judging call
    pub accepted : (round : OrRound)
        → AcceptsOr either s s' round
        ↔ (Below s round.challenge × Accepts code s (first_round round) × Accepts code s' (second_round (instance_of s).header.challenges round))
    -- a round that is not refused is accepted, else rejected
    pub decided : (round : OrRound) → or_number (judge_or s s' round) ≡ 0
        → AcceptsOr either s s' round ⊎ ((mask0 : ℕ) × (mask1 : ℕ) × (judge_or s s' round ≡ OrRejected mask0 mask1))
    -- a round that is neither refused nor accepted is rejected with the rows of both sides
    pub rejected : (round : OrRound) (mask0 mask1 : ℕ) → or_number (judge_or s s' round) ≡ 0
        → (judge_or s s' round ≡ OrRejected mask0 mask1)
        ↔ (SideMask code s (first_round round) mask0 × SideMask code s' (second_round (instance_of s).header.challenges round) mask1
        × (¬ AcceptsOr either s s' round))
    -- the first side that is rejected and the first row in which it fails come first
    pub rejected_first : (round : OrRound) (row : ℕ) → or_number (judge_or s s' round) ≡ 0
        → ((others : List ℕ) × ((or_outcome (judge_or s s' round)).values ≡ 0 ∷ 0 ∷ row ∷ others))
        ↔ FailsFirst (instance_of s) (first_round round) row
    pub rejected_second : (round : OrRound) (row : ℕ) → or_number (judge_or s s' round) ≡ 0
        → ((others : List ℕ) × ((or_outcome (judge_or s s' round)).values ≡ 0 ∷ 1 ∷ row ∷ others))
        ↔ (Accepts code s (first_round round) × FailsFirst (instance_of s') (second_round (instance_of s).header.challenges round) row)
    -- from two accepted rounds with the same commitments and different c: side 0's witness where the c0 differ, else side 1's
    pub extracts_first : (a b : OrRound) → AcceptedOrPair either s s' a b → a.challenge0 ≢ b.challenge0
        → ExtractsSide code either s s' s 0 first_round a b
    pub extracts_second : (a b : OrRound) → AcceptedOrPair either s s' a b → a.challenge0 ≡ b.challenge0
        → ExtractsSide code either s s' s' 1 (second_round (instance_of s).header.challenges) a b
    -- in any session, committing answers for the side that is known what 01's commit answers for the nonce, and for the other what the
    -- simulator gives for the simulated challenge and response
    pub commits_first : (p : OrProver) (k : List ℕ) (d : ℕ) (r : List ℕ) → (commit_or s s' p 0 k d r).refusal ≡ 0
        → ((commit_or s s' p 0 k d r).values0 ≡ (commit s new_prover k).values)
        × ((commit_or s s' p 0 k d r).values1 ≡ (simulate_commitment s' d r).values)
    pub commits_second : (p : OrProver) (n : ℕ) (k : List ℕ) (d : ℕ) (r : List ℕ) → (commit_or s s' p (suc n) k d r).refusal ≡ 0
        → ((commit_or s s' p (suc n) k d r).values0 ≡ (simulate_commitment s d r).values)
        × ((commit_or s s' p (suc n) k d r).values1 ≡ (commit s' new_prover k).values)
    -- responding answers for the side that is known what 01's respond answers to the challenge that is left, in a session that lists
    -- nothing, and for the other the simulated challenge and response
    pub responds_first : (p : OrProver) (c : ℕ) (x : List ℕ) → p.side ≡ 0 → (respond_or s s' p c x).refusal ≡ 0
        → ((respond_or s s' p c x).challenge0 ≡ other_challenge (instance_of s).header.challenges c p.challenge)
        × ((respond_or s s' p c x).values0
        ≡ (respond s (record { phase = Committed; nonce = p.nonce; commitment = p.commitment0; memory = new_prover.memory })
        (other_challenge (instance_of s).header.challenges c p.challenge) x).values)
        × ((respond_or s s' p c x).values1 ≡ pad8 0 (read_slots s' p.response))
    pub responds_second : (p : OrProver) (c : ℕ) (x : List ℕ) → p.side ≡ 1 → (respond_or s s' p c x).refusal ≡ 0
        → ((respond_or s s' p c x).challenge0 ≡ p.challenge)
        × ((respond_or s s' p c x).values0 ≡ pad8 0 (read_slots s p.response))
        × ((respond_or s s' p c x).values1
        ≡ (respond s' (record { phase = Committed; nonce = p.nonce; commitment = p.commitment1; memory = new_prover.memory })
        (other_challenge (instance_of s).header.challenges c p.challenge) x).values)
    -- for each side, each witness of that side's sheet and each c below K, no call on the way is refused
    pub prover_runs : (side c : ℕ) → side < 2 → Below s c → (x : List ℕ) → Witness (instance_of (own side s s')) x
        → (choice : OrChoice) → IsOrChoice s s' side choice
        → ((commit_or s s' new_or_prover side choice.nonce choice.challenge choice.response).refusal ≡ 0)
        × ((respond_or s s' (commit_or s s' new_or_prover side choice.nonce choice.challenge choice.response).session c x).refusal ≡ 0)
    -- and the rounds made over all choices are exactly the accepted rounds with challenge c, each from a single choice
    pub prover : (side c : ℕ) → side < 2 → Below s c → (x : List ℕ) → Witness (instance_of (own side s s')) x
        → MakesEachOnce either s s' side c (or_round either s s' side x c)

module _ (files : FileCalls) (code : RunCalls) (either : OrCalls) where
  -- the card, but for its refusals
  pub record OrProof : Type 0 where
    pub outcomes : OrOutcomes
    pub sessions : OrSessions either
    pub proof : (s s' : List ℕ) → Pair files s s' → OneOfTwo code either s s'
