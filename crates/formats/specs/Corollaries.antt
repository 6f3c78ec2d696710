-- What follows from the demands on sheets and round files and is no sentence of 00 to 02.
-- Assumes nothing.
use Rattle.std.specs.Prelude.{ℕ, ◌+◌, ◌<◌, ◌≡◌, ◌↔◌, ◌≢◌, List}
use Rattle.types.specs.declared.Round.{Round}
use Rattle.encoding.specs.Bytes.{AllBytes, number_at}
use Rattle.sigma.specs.Instance.{Instance}
use Rattle.sigma.specs.Reads.{Agree, padded_round}
use Rattle.formats.specs.Converts.{OneAndOther}
use Rattle.formats.specs.FileCalls.{FileCalls}
use Rattle.formats.specs.Meaning.{read_instance}
use Rattle.formats.specs.Outcome.{Puts, front}
use Rattle.formats.specs.Sheet.{header_of}

module _ (code : FileCalls) where
  open code use {encode, fetch_round, append, same_commitment, convert}

  pub record FileCorollaries : Type 0 where
    -- places that are not read change nothing of what is written
    pub values_read : (inst : Instance) (buffer : List ℕ) → encode inst buffer ≡ encode (read_instance inst) buffer
    pub round_read : (sheet buffer : List ℕ) (used : ℕ) (round : Round)
        → append sheet buffer used round ≡ append sheet buffer used (padded_round (header_of sheet) round)
    -- the count field that the record writer leaves is one more, as a number
    pub counted : (sheet buffer : List ℕ) (used : ℕ) (round : Round) → (append sheet buffer used round).answer.refusal ≡ 0
        → number_at 2 (append sheet buffer used round).buffer 5 ≡ number_at 2 buffer 5 + 1
    -- comparing two commitments answers 1 exactly if those that the read call gives agree in s places
    pub compared : (sheet f : List ℕ) (i j : ℕ) → AllBytes f → (same_commitment sheet f i j).refusal ≡ 0
        → ((same_commitment sheet f i j).same ≡ 1)
        ↔ Agree (header_of sheet).rows (fetch_round sheet f i).round.commitment (fetch_round sheet f j).round.commitment
    -- the converter's result stands at the buffer's start, and no byte after it is changed
    pub put : (sheet f buffer : List ℕ) → (convert sheet f buffer).answer.refusal ≡ 0
        → Puts (front (convert sheet f buffer)) buffer (convert sheet f buffer)
    -- its version is the other one
    pub version : (sheet f buffer : List ℕ) → (convert sheet f buffer).answer.refusal ≡ 0
        → OneAndOther (number_at 2 f 3) (number_at 2 (front (convert sheet f buffer)) 3)
    -- the converter never gives 15 for a file of version 2
    pub from_two : (sheet f buffer : List ℕ) → number_at 2 f 3 ≡ 2 → (convert sheet f buffer).answer.refusal ≢ 15
    -- nor for a file whose challenges are all below K, which stands in bytes 14 to 17 of the sheet
    pub below_K : (sheet f buffer : List ℕ)
        → ((k : ℕ) → k < number_at 2 f 5 → (fetch_round sheet f k).round.challenge < number_at 4 sheet 14)
        → (convert sheet f buffer).answer.refusal ≢ 15
