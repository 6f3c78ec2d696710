-- What a writing call leaves in the lent buffer, as facts ("Turned back", "The patterns", "A round").
-- Assumes nothing.
use Rattle.std.specs.Prelude.{ℕ, ◌+◌, ◌<◌, ◌≤◌, ◌≡◌, ◌⊎◌, List, length, get_or, take, drop}
use Rattle.types.specs.declared.Header.{Header}
use Rattle.types.specs.declared.Round.{Round}
use Rattle.encoding.specs.Bytes.{bytes_of}
use Rattle.formats.specs.RoundFile.{count_field, record_bytes, record_length, width_in_use}
use Rattle.formats.specs.Write.{Writing}

-- the bytes that a call has put at the front of a lent buffer
abbrev pub front : Writing → List ℕ
front w = take w.answer.length w.buffer

-- the buffer keeps its bytes, and the length answered is 0
pub record Keeps (buffer : List ℕ) (w : Writing) : Type 0 where
  pub answered : w.answer.length ≡ 0
  pub same : w.buffer ≡ buffer

-- nothing is refused, the bytes stand at the buffer's start, their length is answered, and no byte after them is changed
pub record Puts (bytes buffer : List ℕ) (w : Writing) : Type 0 where
  pub number : w.answer.refusal ≡ 0
  pub answered : w.answer.length ≡ length bytes
  pub start : take (length bytes) w.buffer ≡ bytes
  pub behind : drop (length bytes) w.buffer ≡ drop (length bytes) buffer
  pub size : length w.buffer ≡ length buffer

-- nothing is refused, the record stands straight after the bytes in use, the two bytes of the count field are those of one more,
-- no byte outside of both is changed, and the count of bytes in use that is answered takes the record in
pub record Adds (h : Header) (round : Round) (buffer : List ℕ) (used : ℕ) (w : Writing) : Type 0 where
  pub number : w.answer.refusal ≡ 0
  pub answered : w.answer.length ≡ used + record_length (width_in_use buffer used) h
  pub stored : take (record_length (width_in_use buffer used) h) (drop used w.buffer) ≡ record_bytes (width_in_use buffer used) h round
  pub raised : take 2 (drop 5 w.buffer) ≡ bytes_of 2 (count_field buffer + 1)
  pub others :
      (j : ℕ) → (j < 5) ⊎ (7 ≤ j) → (j < used) ⊎ (used + record_length (width_in_use buffer used) h ≤ j) →
      get_or w.buffer j 0 ≡ get_or buffer j 0
  pub size : length w.buffer ≡ length buffer
