-- Exactly when a call on rounds and sessions is not refused, without the conditions of its refusals: in the words of 01 ("A round",
-- "Sessions") and by what other calls answer. So a condition that is changed together with its test is seen.
-- Assumes nothing.
use Rattle.std.specs.Prelude.{ℕ, ◌<◌, ◌≡◌, ◌↔◌, ◌⊎◌, List, map, get_or}
use Rattle.types.specs.declared.Prover.{Prover}
use Rattle.types.specs.declared.ProverPhase.TheVariants.{New, Committed}
use Rattle.types.specs.declared.Round.{Round}
use Rattle.types.specs.declared.Saved.{Saved}
use Rattle.types.specs.declared.Verifier.{Verifier}
use Rattle.types.specs.declared.VerifierPhase.TheVariants.{Waiting, Holding, Asked}
use Rattle.formats.specs.FileCalls.{FileCalls}
use Rattle.formats.specs.Sheet.{instance_of}
use Rattle.sigma.specs.Answer.{outcome}
use Rattle.sigma.specs.Knowledge.{AcceptedPair, Choice, Witness}
use Rattle.sigma.specs.Meaning.{Elements, Fits}
use Rattle.sigma.specs.Reads.{Agree, round_of}
use Rattle.runs.specs.Knowledge.{Accepts}
use Rattle.runs.specs.Memory.{listed_at}
use Rattle.runs.specs.OnSheet.{Below, read_slots}
use Rattle.runs.specs.RunCalls.{RunCalls}

pub record RoundsRun (files : FileCalls) (code : RunCalls) : Type 0 where
  -- ---- rounds
  -- judging: the sheet loads, and the round has group elements in s places, a challenge below K and domain slots in n places
  pub judges : (sheet : List ℕ) (round : Round)
      → ((outcome (code.judge_round sheet round)).number ≡ 0) ↔ (((files.load sheet).refusal ≡ 0) × Fits (instance_of sheet) round)
  -- simulating: c and r are those of an accepted round
  pub simulates : (sheet : List ℕ) (c : ℕ) (r : List ℕ)
      → ((code.simulate_commitment sheet c r).refusal ≡ 0) ↔ ((t : List ℕ) × Accepts code sheet (round_of t c r))
  -- extracting: both rounds are accepted, the commitments are equal and the challenges different
  pub extracts : (sheet : List ℕ) (first second : Round) → ((code.extract_witness sheet first second).refusal ≡ 0)
      ↔ AcceptedPair (instance_of sheet).header (Accepts code sheet) first second
  -- and with the rounds exchanged the number is the same, for any bytes
  pub swapped : (sheet : List ℕ) (first second : Round)
      → (code.extract_witness sheet second first).refusal ≡ (code.extract_witness sheet first second).refusal
  -- ---- Peggy
  -- committing: the sheet loads, the session is New and the nonce has domain slots
  pub commits : (sheet : List ℕ) (p : Prover) (k : List ℕ) → ((code.commit sheet p k).refusal ≡ 0)
      ↔ (((files.load sheet).refusal ≡ 0) × (p.phase ≡ New) × Choice (instance_of sheet) (read_slots sheet k))
  -- responding: the session is Committed, a new session commits to the held nonce and answers the held commitment in all eight
  -- places, the challenge is below K, x is a witness, and fewer than 64 commitments are counted, none of which is the held one
  pub responds : (sheet : List ℕ) (p : Prover) (c : ℕ) (x : List ℕ) → ((code.respond sheet p c x).refusal ≡ 0)
      ↔ ((p.phase ≡ Committed) × ((code.commit sheet code.new_prover p.nonce).refusal ≡ 0)
      × Agree 8 (code.commit sheet code.new_prover p.nonce).values p.commitment
      × Below sheet c × Witness (instance_of sheet) (read_slots sheet x)
      × (p.memory.count < 64) × ((i : ℕ) → i < p.memory.count → ¬ Agree 8 (listed_at p.memory i) p.commitment))
  -- dropping: the session is New or Committed
  pub drops : (p : Prover) → ((code.drop_session p).refusal ≡ 0) ↔ ((p.phase ≡ New) ⊎ (p.phase ≡ Committed))
  -- saving: the name is one of 0 to 7, in every state
  pub saves : (p : Prover) (name : ℕ) → ((code.save p name).refusal ≡ 0) ↔ (name < 8)
  -- returning: likewise, and the name's flag is not 0
  pub returns : (p : Prover) (name : ℕ) → ((code.return_to p name).refusal ≡ 0)
      ↔ ((name < 8) × (0 < get_or (map (λ (s : Saved). s.kept) p.memory.saved) name 0))
  -- ---- Vic
  -- the commitment: the sheet loads, the session is Waiting and the commitment has group elements
  pub takes_commitment : (sheet : List ℕ) (v : Verifier) (t : List ℕ) → ((code.take_commitment sheet v t).refusal ≡ 0)
      ↔ (((files.load sheet).refusal ≡ 0) × (v.phase ≡ Waiting) × Elements (instance_of sheet) t)
  -- the challenge: the session is Holding, a new session takes the held commitment, and the challenge is below K
  pub takes_challenge : (sheet : List ℕ) (v : Verifier) (c : ℕ) → ((code.take_challenge sheet v c).refusal ≡ 0)
      ↔ ((v.phase ≡ Holding) × ((code.take_commitment sheet code.new_verifier v.commitment).refusal ≡ 0) × Below sheet c)
  -- the response: the session is Asked, and the round of what is held and the response is judged
  pub takes_response : (sheet : List ℕ) (v : Verifier) (r : List ℕ) → ((outcome (code.take_response sheet v r).verdict).number ≡ 0)
      ↔ ((v.phase ≡ Asked) × ((outcome (code.judge_round sheet (round_of v.commitment v.challenge r))).number ≡ 0))
