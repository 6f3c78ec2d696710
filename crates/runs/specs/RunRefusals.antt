-- Demand 1 (00) of the calls on rounds and sessions, and of the marker: each, for any bytes and any numbers, ends in a result or
-- in one of its refusals, whose conditions are fixed, and a refused call changes no session.
-- Assumes nothing.
use Rattle.std.specs.Prelude.{ℕ, ◌≤◌, ◌≡◌, ◌⊎◌, List, [], ◌∷◌, ◌++◌}
use Rattle.types.specs.declared.Prover.{Prover}
use Rattle.types.specs.declared.ProverStep.{ProverStep}
use Rattle.types.specs.declared.Round.{Round}
use Rattle.types.specs.declared.Verdict.TheVariants.{Refused}
use Rattle.types.specs.declared.Verifier.{Verifier}
use Rattle.lists.specs.Places.{zeros8}
use Rattle.encoding.specs.Text.{ascii, decimal}
use Rattle.rules.specs.Condition.{Given}
use Rattle.rules.specs.Refuses.{Refuses}
use Rattle.formats.specs.Refusals.{load_conditions}
use Rattle.formats.specs.Sheet.{header_of, instance_of}
use Rattle.sigma.specs.Answer.{outcome}
use Rattle.sigma.specs.Refusals.{judge_conditions, simulate_conditions, extract_conditions}
use Rattle.formats.specs.Refusals.{RefusesOn}
use Rattle.runs.specs.Level.{mark_conditions}
use Rattle.runs.specs.MarkerCalls.{MarkerCalls}
use Rattle.runs.specs.Refusals.{commit_conditions, respond_conditions, drop_conditions, save_conditions, return_conditions}
use Rattle.runs.specs.Refusals.{take_commitment_conditions, take_challenge_conditions, take_response_conditions}
use Rattle.runs.specs.RunCalls.{RunCalls}

-- a call hands back Peggy's session p as it was, and zeros
abbrev pub Unmoved : Prover → ProverStep → Type 0
Unmoved p step = (step.session ≡ p) × (step.values ≡ zeros8)

-- a text is the one line of a refusal: of the sheet with its number, of the file with 12 or of the level with 25
abbrev pub OneLine : ℕ → List ℕ → Type 0
OneLine number text =
    ((number ≤ 11) × (text ≡ ascii "sheet " ++ decimal number ++ ascii "\n")) ⊎
    ((number ≡ 12) × (text ≡ ascii "file 12\n")) ⊎ ((number ≡ 25) × (text ≡ ascii "level 25\n"))

module _ (code : RunCalls) where
  open code use {judge_round, simulate_commitment, extract_witness, commit, respond, drop_session, save, return_to}
  open code use {take_commitment, take_challenge, take_response}

  -- every call but the two that make a new session, which take nothing and refuse nothing
  pub record RunRefusals : Type 0 where
    -- ---- the calls on rounds
    -- judging; a refused round's verdict is the number
    pub judging : (sheet : List ℕ) (round : Round)
        → RefusesOn sheet (14 ∷ 15 ∷ 16 ∷ []) (judge_conditions (instance_of sheet) round)
        (outcome (judge_round sheet round)).number (judge_round sheet round ≡ Refused (outcome (judge_round sheet round)).number)
    -- simulating; a refused call gives zeros beside the number
    pub simulating : (sheet : List ℕ) (c : ℕ) (r : List ℕ)
        → RefusesOn sheet (15 ∷ 16 ∷ []) (simulate_conditions (instance_of sheet) c r)
        (simulate_commitment sheet c r).refusal ((simulate_commitment sheet c r).values ≡ zeros8)
    -- extracting; likewise
    pub extracting : (sheet : List ℕ) (first second : Round)
        → RefusesOn sheet (14 ∷ 15 ∷ 16 ∷ 18 ∷ 19 ∷ 20 ∷ []) (extract_conditions (instance_of sheet) first second)
        (extract_witness sheet first second).refusal ((extract_witness sheet first second).values ≡ zeros8)
    -- ---- the calls on Peggy's session; a refused call hands back the same session, and zeros beside the number
    pub committing : (sheet : List ℕ) (p : Prover) (k : List ℕ)
        → RefusesOn sheet (16 ∷ 21 ∷ []) (commit_conditions (instance_of sheet) p k)
        (commit sheet p k).refusal (Unmoved p (commit sheet p k))
    pub responding : (sheet : List ℕ) (p : Prover) (c : ℕ) (x : List ℕ)
        → RefusesOn sheet (15 ∷ 16 ∷ 17 ∷ 21 ∷ 32 ∷ 33 ∷ []) (respond_conditions (instance_of sheet) p c x)
        (respond sheet p c x).refusal (Unmoved p (respond sheet p c x))
    pub dropping : (p : Prover) → Refuses (21 ∷ []) (drop_conditions p) (drop_session p).refusal (Unmoved p (drop_session p))
    -- saving and returning, in every state
    pub saving : (p : Prover) (name : ℕ) → Refuses (34 ∷ []) (save_conditions name) (save p name).refusal (Unmoved p (save p name))
    pub returning : (p : Prover) (name : ℕ)
        → Refuses (34 ∷ []) (return_conditions p name) (return_to p name).refusal (Unmoved p (return_to p name))
    -- ---- the calls on Vic's session; a refused call hands back the same session
    pub taking_commitment_law : (sheet : List ℕ) (v : Verifier) (t : List ℕ)
        → RefusesOn sheet (14 ∷ 21 ∷ []) (take_commitment_conditions (instance_of sheet) v t)
        (take_commitment sheet v t).refusal ((take_commitment sheet v t).session ≡ v)
    pub taking_challenge_law : (sheet : List ℕ) (v : Verifier) (c : ℕ)
        → RefusesOn sheet (15 ∷ 21 ∷ []) (take_challenge_conditions (instance_of sheet) v c)
        (take_challenge sheet v c).refusal ((take_challenge sheet v c).session ≡ v)
    -- and the verdict is the number
    pub taking_response_law : (sheet : List ℕ) (v : Verifier) (r : List ℕ)
        → RefusesOn sheet (16 ∷ 21 ∷ []) (take_response_conditions (instance_of sheet) v r)
        (outcome (take_response sheet v r).verdict).number
        (take_response sheet v r ≡ record { verdict = Refused (outcome (take_response sheet v r).verdict).number; session = v })

module _ (marker : MarkerCalls) where
  open marker use {marker_text}

  pub record MarkRefusals : Type 0 where
    -- the number n of what is refused first is that of the marker's one line: a refused sheet, file or level
    pub marking : (sheet file level : List ℕ) (n : ℕ) → Given (load_conditions sheet ++ mark_conditions (header_of sheet) file level) n
        → RefusesOn sheet (12 ∷ 25 ∷ []) (mark_conditions (header_of sheet) file level) n (OneLine n (marker_text sheet file level))
