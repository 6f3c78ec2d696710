-- Where the values of a sheet and of a round file stand in their bytes (01, "The sheet" and "A round"; 02, card 7).
-- Assumes nothing.
use Rattle.std.specs.Prelude.{ℕ, ◌+◌, ◌*◌, ◌^◌, ◌<◌, ◌≤◌, ◌≡◌, ◌≢◌, List, [], ◌∷◌, length, get_or, take, drop, replicate}
use Rattle.types.specs.declared.Header.{Header}
use Rattle.types.specs.declared.Round.{Round}
use Rattle.encoding.specs.Bytes.{number_at}
use Rattle.sigma.specs.Instance.{Instance}
use Rattle.formats.specs.FileCalls.{FileCalls, loaded}
use Rattle.formats.specs.Meaning.{HasWidth, record_size}
use Rattle.formats.specs.RoundFile.{challenge_width}
use Rattle.formats.specs.Sheet.{header_of, instance_of, version_of}

-- numbers are unsigned and have their high byte first
pub record HighByteFirst : Type 0 where
  pub one : (s : List ℕ) (at : ℕ) → number_at 1 s at ≡ get_or s at 0
  pub two : (s : List ℕ) (at : ℕ) → number_at 2 s at ≡ get_or s at 0 * 256 + get_or s (at + 1) 0
  pub four : (s : List ℕ) (at : ℕ)
      → number_at 4 s at ≡ get_or s at 0 * 256 ^ 3 + get_or s (at + 1) 0 * 256 ^ 2 + get_or s (at + 2) 0 * 256 + get_or s (at + 3) 0

-- an array of eight places holds the n words of 32 bits that stand from byte `at` on, and 0 beyond them
pub record WordsAt (bytes : List ℕ) (at n : ℕ) (array : List ℕ) : Type 0 where
  pub size : length array ≡ 8
  pub within : (j : ℕ) → j < n → get_or array j 0 ≡ number_at 4 bytes (at + 4 * j)
  pub beyond : (j : ℕ) → n ≤ j → get_or array j 0 ≡ 0

-- the body of a sheet of kind 1: s × n entries from byte 20 on, row by row, then the statement; rows beyond s are zeros
pub record ExponentLayout (sheet : List ℕ) (inst : Instance) (s n : ℕ) : Type 0 where
  pub rows : length inst.entries ≡ 8
  pub entries : (i : ℕ) → i < s → WordsAt sheet (20 + 4 * (n * i)) n (get_or inst.entries i [])
  pub beyond : (i : ℕ) → s ≤ i → get_or inst.entries i (replicate 8 0) ≡ replicate 8 0
  pub statement : WordsAt sheet (20 + 4 * (s * n)) s inst.statement

-- the body of a sheet of kind 2: the statement alone; all entries are 0
pub record RootLayout (sheet : List ℕ) (inst : Instance) (s : ℕ) : Type 0 where
  pub entries : inst.entries ≡ replicate 8 (replicate 8 0)
  pub statement : WordsAt sheet 20 s inst.statement

-- the values of any bytes: fixed fields, and the body where they have at most eight rows and columns
pub record SheetLayout (sheet : List ℕ) : Type 0 where
  pub version : version_of sheet ≡ number_at 2 sheet 3
  pub fields : header_of sheet
      ≡ record {
        kind = number_at 1 sheet 5;
        modulus = number_at 4 sheet 6;
        order = number_at 4 sheet 10;
        challenges = number_at 4 sheet 14;
        rows = number_at 1 sheet 18;
        columns = number_at 1 sheet 19;
      }
  pub header : (instance_of sheet).header ≡ header_of sheet
  pub exponent : (header_of sheet).kind ≡ 1 → (header_of sheet).rows ≤ 8 → (header_of sheet).columns ≤ 8
      → ExponentLayout sheet (instance_of sheet) (header_of sheet).rows (header_of sheet).columns
  pub root : (header_of sheet).kind ≢ 1 → (header_of sheet).rows ≤ 8 → RootLayout sheet (instance_of sheet) (header_of sheet).rows

-- a round as it stands in a file from byte `at` on
pub record RoundAt (width : ℕ) (h : Header) (file : List ℕ) (at : ℕ) (round : Round) : Type 0 where
  pub commitment : WordsAt file at h.rows round.commitment
  pub challenge : round.challenge ≡ number_at width file (at + 4 * h.rows)
  pub response : WordsAt file (at + 4 * h.rows + width) h.columns round.response

module _ (code : FileCalls) where
  open code use {load, count_rounds, part_of_round, locate_round, fetch_round}

  -- a round file that reads for a sheet, and whose challenges have so many bytes
  pub record FileLayout (width : ℕ) (sheet file : List ℕ) : Type 0 where
    pub mark : take 3 file ≡ 0x52 ∷ 0x4E ∷ 0x44 ∷ []
    pub version : HasWidth (number_at 2 file 3) width
    pub count : (count_rounds sheet file).count ≡ number_at 2 file 5
    pub size : length file ≡ 7 + number_at 2 file 5 * record_size width (header_of sheet)
    pub rounds : (k : ℕ) → k < number_at 2 file 5
        → ((fetch_round sheet file k).refusal ≡ 0)
        × RoundAt width (header_of sheet) file (7 + k * record_size width (header_of sheet)) (fetch_round sheet file k).round
    pub parts : (k : ℕ) → k < number_at 2 file 5
        → part_of_round sheet file k
        ≡ take (record_size width (header_of sheet)) (drop (7 + k * record_size width (header_of sheet)) file)
    -- the place of that part in the caller's own file
    pub located : (k : ℕ) → k < number_at 2 file 5
        → locate_round sheet file k
        ≡ record { offset = 7 + k * record_size width (header_of sheet); length = record_size width (header_of sheet) }

  pub record Layout : Type 0 where
    pub numbers : HighByteFirst
    pub sheets : (sheet : List ℕ) → SheetLayout sheet
    -- the loader gives the values of a sheet that loads
    pub loading : (sheet : List ℕ) → (load sheet).refusal ≡ 0 → loaded code sheet ≡ instance_of sheet
    -- the width of a file's challenges is that of its version
    pub widths : (file : List ℕ) (width : ℕ) → HasWidth (number_at 2 file 3) width → challenge_width file ≡ width
    pub files : (sheet file : List ℕ) → (count_rounds sheet file).refusal ≡ 0 → FileLayout (challenge_width file) sheet file
