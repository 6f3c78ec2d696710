-- The converter of round files (02, card 7) loses nothing: what it leaves reads as the original does.
-- Assumes nothing.
use Rattle.std.specs.Prelude.{ℕ, ◌≡◌, List}
use Rattle.encoding.specs.Bytes.{AllBytes}
use Rattle.formats.specs.FileCalls.{FileCalls}
use Rattle.formats.specs.Outcome.{front}
use Rattle.runs.specs.MarkerCalls.{MarkerCalls, verdict_on}
use Rattle.runs.specs.RunCalls.{RunCalls}

module _ (files : FileCalls) (code : RunCalls) (marker : MarkerCalls) where
  open files use {count_rounds, fetch_round, convert}
  open marker use {marker_text}

  -- two files of a sheet read alike: their counts, what the read call gives for each round number, the verdicts on the rounds,
  -- refused ones too, and the marker's text at every level
  pub record ReadsAlike (sheet f g : List ℕ) : Type 0 where
    pub count : count_rounds sheet g ≡ count_rounds sheet f
    pub values : (k : ℕ) → fetch_round sheet g k ≡ fetch_round sheet f k
    pub verdicts : (k : ℕ) → verdict_on files code sheet g k ≡ verdict_on files code sheet f k
    pub text : (level : List ℕ) → marker_text sheet g level ≡ marker_text sheet f level

  -- a file that converts
  pub record LosesNothing : Type 0 where
    -- reads as the original does
    pub same : (sheet f buffer : List ℕ) → AllBytes f → (convert sheet f buffer).answer.refusal ≡ 0
        → ReadsAlike sheet f (front (convert sheet f buffer))
