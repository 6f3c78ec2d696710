-- Exactly when the calls on sheets and round files are not refused, in other words than the conditions: loading by the sheet's bytes,
-- and the others by what the calls of the same code answer.
-- Assumes nothing.
use Rattle.std.specs.Prelude.{ℕ, ◌+◌, ◌*◌, ◌^◌, ◌<◌, ◌≤◌, ◌≡◌, ◌↔◌, ◌⊎◌, List, [], ◌∷◌, length, take}
use Rattle.std.specs.Int.{◌∣◌}
use Rattle.types.specs.declared.Round.{Round}
use Rattle.encoding.specs.Bytes.{AllBytes, number_at}
use Rattle.sigma.specs.Element.{Element}
use Rattle.sigma.specs.Instance.{Instance, entry, table_of}
use Rattle.sigma.specs.Meaning.{Elements}
use Rattle.formats.specs.Converts.{OneAndOther}
use Rattle.formats.specs.Encode.{sheet_of}
use Rattle.formats.specs.FileCalls.{FileCalls, loaded}
use Rattle.formats.specs.Meaning.{HasWidth, read_instance, record_size}
use Rattle.formats.specs.Outcome.{Puts}
use Rattle.formats.specs.Rounds.{append_each, rounds_read}
use Rattle.formats.specs.Sheet.{header_of, instance_of}

-- a sheet as 01 has it, by its bytes
pub record IsSheet (s : List ℕ) : Type 0 where
  pub mark : take 3 s ≡ 0x48 ∷ 0x4F ∷ 0x4D ∷ []
  pub version : number_at 2 s 3 ≡ 1
  pub modulus : 3 ≤ number_at 4 s 6
  pub order : 2 ≤ number_at 4 s 10
  -- K is from 2 to 65,536 and at most every divisor of ℓ from 2 on
  pub challenges : (2 ≤ number_at 4 s 14) × (number_at 4 s 14 ≤ 65536) × ((d : ℕ) → 2 ≤ d → d ∣ number_at 4 s 10 → number_at 4 s 14 ≤ d)
  pub rows : (1 ≤ number_at 1 s 18) × (number_at 1 s 18 ≤ 8)
  pub columns : (1 ≤ number_at 1 s 19) × (number_at 1 s 19 ≤ 8)
  -- kind 1 with its length, or kind 2 with as many columns as rows and its length
  pub kind : ((number_at 1 s 5 ≡ 1) × (length s ≡ 20 + 4 * (number_at 1 s 18 * number_at 1 s 19) + 4 * number_at 1 s 18))
      ⊎ ((number_at 1 s 5 ≡ 2) × (number_at 1 s 18 ≡ number_at 1 s 19) × (length s ≡ 20 + 4 * number_at 1 s 18))
  -- the entries, which kind 1 alone has, and the statement are group elements
  pub entries : number_at 1 s 5 ≡ 1 → (i j : ℕ) → i < number_at 1 s 18 → j < number_at 1 s 19
      → Element (header_of s) (entry (table_of (instance_of s)) i j)
  pub statement : Elements (instance_of s) (instance_of s).statement

module _ (code : FileCalls) where
  open code use {load, encode, count_rounds, check_round, fetch_round, empty_file, append, same_commitment, convert}

  pub record FilesRun : Type 0 where
    -- any bytes load exactly if they are a sheet
    pub loads : (s : List ℕ) → ((load s).refusal ≡ 0) ↔ IsSheet s
    -- values of 32 bits are written exactly if their sheet loads as what is read of them and is not longer than the buffer
    pub encodes : (inst : Instance) (buffer : List ℕ) → inst.header.modulus < 2 ^ 32 → inst.header.order < 2 ^ 32
        → ((encode inst buffer).answer.refusal ≡ 0) ↔ (((load (sheet_of inst)).refusal ≡ 0)
        × (loaded code (sheet_of inst) ≡ read_instance inst) × (length (sheet_of inst) ≤ length buffer))
    -- a file of bytes is counted exactly if the sheet loads and the record writer, called for each of some rounds on an empty file,
    -- writes it
    pub counts : (s f : List ℕ) → AllBytes f → ((count_rounds s f).refusal ≡ 0) ↔ (((load s).refusal ≡ 0)
        × ((version : ℕ) × (rounds : List Round) × Puts f f (append_each code s (empty_file version f) rounds)))
    -- round k is checked and read exactly if it is below the count, which is 0 for a refused file
    pub checks : (s f : List ℕ) (k : ℕ) → (check_round s f k ≡ 0) ↔ (k < (count_rounds s f).count)
    pub reads : (s f : List ℕ) (k : ℕ) → (fetch_round s f k).refusal ≡ check_round s f k
    -- two commitments are compared exactly if both rounds are checked
    pub compares : (s f : List ℕ) (i j : ℕ)
        → ((same_commitment s f i j).refusal ≡ 0) ↔ ((check_round s f i ≡ 0) × (check_round s f j ≡ 0))
    -- an empty file is made exactly in version 1 or 2 and in seven bytes or more
    pub starts : (v : ℕ) (buffer : List ℕ) → ((empty_file v buffer).answer.refusal ≡ 0) ↔ (((v ≡ 1) ⊎ (v ≡ 2)) × (7 ≤ length buffer))
    -- a round with a challenge of 32 bits is appended exactly if the bytes in use are in the buffer and are counted with fewer than
    -- 512 rounds, the challenge fits the bytes that it has in their version, and the record fits after them
    pub appends : (s buffer : List ℕ) (used : ℕ) (round : Round) → round.challenge < 2 ^ 32
        → ((append s buffer used round).answer.refusal ≡ 0)
        ↔ ((used ≤ length buffer) × ((count_rounds s (take used buffer)).refusal ≡ 0)
        × ((count_rounds s (take used buffer)).count < 512) × ((width : ℕ) × HasWidth (number_at 2 buffer 3) width
        × (round.challenge < 256 ^ width) × (used + record_size width (header_of s) ≤ length buffer)))
    -- a file is converted exactly if it is counted and the record writer writes its rounds into an empty file of the other version
    pub converts : (s f buffer : List ℕ) → ((convert s f buffer).answer.refusal ≡ 0)
        ↔ (((count_rounds s f).refusal ≡ 0) × ((other : ℕ) × OneAndOther (number_at 2 f 3) other
        × ((append_each code s (empty_file other buffer) (rounds_read code s f)).answer.refusal ≡ 0)))
