-- Demand 2's half on files (00): sheets and round files that the calls write read back as the same values, and a file that
-- reads is written back as the same bytes, in each version of round files (02, card 7). What a call wrote is the buffer's front of
-- the length that it answered.
-- Assumes nothing.
use Rattle.std.specs.Prelude.{ℕ, ◌^◌, ◌<◌, ◌≤◌, ◌≡◌, List, map, length, take}
use Rattle.types.specs.declared.Round.{Round}
use Rattle.lists.specs.Member.{Member}
use Rattle.encoding.specs.Bytes.{AllBytes, number_at}
use Rattle.sigma.specs.Instance.{Instance}
use Rattle.sigma.specs.Reads.{padded_round}
use Rattle.formats.specs.FileCalls.{FileCalls, loaded}
use Rattle.formats.specs.Meaning.{HasWidth, read_instance}
use Rattle.formats.specs.Outcome.{Puts, front}
use Rattle.formats.specs.RoundFile.{record_start}
use Rattle.formats.specs.Rounds.{Grows, Words, append_each, rounds_read}
use Rattle.formats.specs.Sheet.{header_of}
use Rattle.formats.specs.Write.{Writing}
use Rattle.linear_forms.specs.LinearCalls.{LinearCalls}
use Rattle.linear_forms.specs.LinearPlan.{LinearPlan}
use Rattle.linear_forms.specs.LinearSheets.{OfPlan}
use Rattle.patterns.specs.Maker.{asked}
use Rattle.patterns.specs.MakerCalls.{MakerCalls}

module _ (files : FileCalls) where
  open files use {load}

  -- a sheet loads, and loading gives these values
  abbrev pub LoadsAs : List ℕ → Instance → Type 0
  LoadsAs sheet inst = ((load sheet).refusal ≡ 0) × (loaded files sheet ≡ inst)

module _ (files : FileCalls) (makers : MakerCalls) (linear : LinearCalls) where
  open files use {load, encode, count_rounds, empty_file, append}
  open makers use {make_from}
  open linear use {make_linear}

  pub record ReadsBack : Type 0 where
    -- what the second writer writes loads as the values that it read, with 0 in the places that are not read
    pub encoded : (inst : Instance) (buffer : List ℕ) → inst.header.modulus < 2 ^ 32 → inst.header.order < 2 ^ 32
        → (encode inst buffer).answer.refusal ≡ 0
        → LoadsAs files (front (encode inst buffer)) (read_instance inst)
    -- what the sheet maker writes loads as the asked pattern's entries over the public values, and z
    pub from_pattern_law : (f : List ℕ) (number m ℓ K : ℕ) (values z buffer : List ℕ) → m < 2 ^ 32 → ℓ < 2 ^ 32
        → (make_from f number m ℓ K values z buffer).answer.refusal ≡ 0
        → LoadsAs files (front (make_from f number m ℓ K values z buffer)) (asked f number m ℓ K values z)
    -- what the maker of sheets from linear forms writes loads as the plan's values
    pub from_forms : (p : LinearPlan) (buffer : List ℕ) → p.modulus < 2 ^ 32 → p.order < 2 ^ 32
        → (make_linear p buffer).answer.refusal ≡ 0
        → (inst : Instance) × OfPlan p inst × LoadsAs files (front (make_linear p buffer)) inst
    -- a sheet that loads is written back as the same bytes from what loading gives
    pub sheet_again : (sheet buffer : List ℕ) → AllBytes sheet → (load sheet).refusal ≡ 0 → length sheet ≤ length buffer
        → Puts sheet buffer (encode (loaded files sheet) buffer)
    -- rounds of 32-bit values, and in version 2 of 16-bit challenges, appended one by one to an empty file of a version, are of that
    -- version, counted and read back as what is stored of them
    pub appended : (version width : ℕ) → HasWidth version width → (sheet buffer : List ℕ) → (load sheet).refusal ≡ 0 → (rounds : List Round) → length rounds ≤ 512
        → record_start width (header_of sheet) (length rounds) ≤ length buffer
        → ((round : Round) → Member round rounds → Words width (header_of sheet) round)
        → (w : Writing) → w ≡ append_each files sheet (empty_file version buffer) rounds
        → (number_at 2 (front w) 3 ≡ version) × (count_rounds sheet (front w) ≡ record { refusal = 0; count = length rounds })
        × (rounds_read files sheet (front w) ≡ map (padded_round (header_of sheet)) rounds)
    -- a round appended to any round file is the file's last
    pub grown : (sheet buffer : List ℕ) (used : ℕ) (round : Round) → (append sheet buffer used round).answer.refusal ≡ 0
        → Grows files sheet (take used buffer) round (front (append sheet buffer used round))
    -- a round file that reads is written back as the same bytes, in its version, from what the read call gives
    pub file_again : (sheet file buffer : List ℕ) → AllBytes file → (count_rounds sheet file).refusal ≡ 0 → length file ≤ length buffer
        → Puts file buffer (append_each files sheet (empty_file (number_at 2 file 3) buffer) (rounds_read files sheet file))
