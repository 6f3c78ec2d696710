-- A round file as a list of rounds: the rounds that a file holds, the file of given rounds, and rounds appended one by one.
-- Assumes nothing.
use Rattle.std.specs.Prelude.{ℕ, ◌+◌, ◌^◌, ◌<◌, ◌≡◌, length, get_or}
use mathlib.Core.List.{List, [], ◌∷◌, ◌++◌, flatten, map}
use Rattle.types.specs.declared.Header.{Header}
use Rattle.types.specs.declared.Round.{Round}
use Rattle.encoding.specs.Bytes.{bytes_of, number_at}
use Rattle.lists.specs.Places.{tabulate}
use Rattle.sigma.specs.Reads.{padded_round}
use Rattle.formats.specs.FileCalls.{FileCalls}
use Rattle.formats.specs.RoundFile.{challenge_width, width_of, record_bytes, record_start, round_at, round_mark, count_field}
use Rattle.formats.specs.Sheet.{header_of}
use Rattle.formats.specs.Write.{Writing}

-- the values of a record have 32 bits, and the challenge fits its width
pub record Words (width : ℕ) (h : Header) (round : Round) : Type 0 where
  pub commitment : (j : ℕ) → j < h.rows → get_or round.commitment j 0 < 2 ^ 32
  pub challenge : round.challenge < 256 ^ width
  pub response : (j : ℕ) → j < h.columns → get_or round.response j 0 < 2 ^ 32

-- the rounds of a file, in order, by their places
unfoldable pub rounds_of : Header → List ℕ → List Round
rounds_of h f = tabulate (count_field f) (λ k. round_at (challenge_width f) h f (record_start (challenge_width f) h k))

-- the file of given rounds, in a version
unfoldable pub file_in : ℕ → Header → List Round → List ℕ
file_in version h rounds =
    round_mark ++ bytes_of 2 version ++ bytes_of 2 (length rounds) ++ flatten (map (record_bytes (width_of version) h) rounds)

module _ (code : FileCalls) where
  open code use {count_rounds, fetch_round, append}

  -- the record writer called for each round in turn, on the buffer and the bytes in use that the call before it left
  unfoldable pub append_each : List ℕ → Writing → List Round → Writing
  append_each sheet w [] = w
  append_each sheet w (round ∷ rounds) = append_each sheet (append sheet w.buffer w.answer.length round) rounds

  -- the rounds of a file as the calls read them
  abbrev pub rounds_read : List ℕ → List ℕ → List Round
  rounds_read sheet f = tabulate (count_rounds sheet f).count (λ k. (fetch_round sheet f k).round)

  -- the file f' is of the version of the file f and reads as f with one round more, at its end
  pub record Grows (sheet f : List ℕ) (round : Round) (f' : List ℕ) : Type 0 where
    pub version : number_at 2 f' 3 ≡ number_at 2 f 3
    pub count : count_rounds sheet f' ≡ record { refusal = 0; count = (count_rounds sheet f).count + 1 }
    pub rounds : Words (challenge_width f) (header_of sheet) round
        → rounds_read sheet f' ≡ rounds_read sheet f ++ padded_round (header_of sheet) round ∷ []
