-- What 01 says of bytes, as facts: a sheet that loads, a round file of a sheet, in the versions of 02's card 7, and what is read
-- of a sheet's values.
-- Assumes nothing.
use Rattle.std.specs.Prelude.{ℕ, ◌+◌, ◌*◌, ◌<◌, ◌≤◌, ◌≡◌, cond, ◌⊎◌, List, length, take}
use Rattle.types.specs.declared.Header.{Header}
use Rattle.lists.specs.Places.{eight_by_eight, pad8, places}
use Rattle.sigma.specs.Instance.{Instance, table_of, entry, is_exponent}
use Rattle.sigma.specs.Reads.{Agree}
use Rattle.sigma.specs.Valid.{Valid}
use Rattle.formats.specs.RoundFile.{challenge_width, count_field, file_version, record_start, round_mark}
use Rattle.formats.specs.Sheet.{header_of, instance_of, sheet_length, sheet_mark, version_of, zeros64}

-- none of 2 to 11 applies to the sheet
pub record Loads (s : List ℕ) : Type 0 where
  pub mark : take 3 s ≡ sheet_mark
  pub version : version_of s ≡ 1
  pub valid : Valid (instance_of s)
  pub exact : length s ≡ sheet_length (header_of s)

-- the versions of round files
abbrev pub IsVersion : ℕ → Type 0
IsVersion version = (version ≡ 1) ⊎ (version ≡ 2)

-- a challenge has four bytes in version 1 and two in version 2
abbrev pub HasWidth : ℕ → ℕ → Type 0
HasWidth version width = ((version ≡ 1) × (width ≡ 4)) ⊎ ((version ≡ 2) × (width ≡ 2))

-- the bytes of a record whose challenge has so many: t, c, r in 4(s + n) and those
abbrev pub record_size : ℕ → Header → ℕ
record_size width h = 4 * (h.rows + h.columns) + width

-- 12 does not apply to the round file
pub record IsRoundFile (h : Header) (f : List ℕ) : Type 0 where
  pub mark : take 3 f ≡ round_mark
  pub version : IsVersion (file_version f)
  pub few : count_field f ≤ 512
  pub exact : length f ≡ record_start (challenge_width f) h (count_field f)

-- 12 does not apply to the record writer: the bytes in use are a round file with room for a round
pub record InUse (h : Header) (buffer : List ℕ) (used : ℕ) : Type 0 where
  pub inside : used ≤ length buffer
  pub file : IsRoundFile h (take used buffer)
  pub room : count_field (take used buffer) < 512

-- the values of two sheets are the same: entries and statement are read within rows and columns, and entries only in kind 1
pub record SameInstance (i i' : Instance) : Type 0 where
  pub header : i.header ≡ i'.header
  pub entries :
      i.header.kind ≡ 1 →
      (r c : ℕ) → r < i.header.rows → c < i.header.columns → entry (table_of i) r c ≡ entry (table_of i') r c
  pub statement : Agree i.header.rows i.statement i'.statement

-- what is read of a sheet's values, with 0 in the places that are not
unfoldable pub read_instance : Instance → Instance
read_instance i =
    record {
      header = i.header;
      entries =
          cond (is_exponent i.header) (eight_by_eight i.header.rows i.header.columns (entry (table_of i))) zeros64;
      statement = pad8 0 (places i.header.rows i.statement);
    }
