-- Demand 1 (00) of 01's calls on sheets and round files: each, for any bytes and any numbers, ends in a result or in one of its
-- refusals, whose conditions are fixed, and a refused call changes no byte of a lent buffer. The sheet maker reads a pattern file
-- (02, card 2) and stands in crate patterns; comparing commitments (card 5) and converting (card 7) have records of their own.
-- Assumes nothing.
use Rattle.std.specs.Prelude.{ℕ, ◌<◌, ◌≡◌, ◌↔◌, ◌≢◌, List, [], ◌∷◌, replicate}
use Rattle.types.specs.declared.Round.{Round}
use Rattle.rules.specs.Order.{sheet_numbers}
use Rattle.rules.specs.Refuses.{Refuses}
use Rattle.sigma.specs.Instance.{Instance}
use Rattle.sigma.specs.Reads.{round_of}
use Rattle.formats.specs.FileCalls.{FileCalls}
use Rattle.formats.specs.Outcome.{Keeps}
use Rattle.formats.specs.Refusals.{RefusesOn, load_conditions, encode_conditions}
use Rattle.formats.specs.Refusals.{file_conditions, round_conditions, empty_conditions, append_conditions}
use Rattle.formats.specs.Sheet.{header_of}

module _ (code : FileCalls) where
  open code use {load, load_entries, encode, count_rounds, check_round, part_of_round, locate_round, fetch_round}
  open code use {empty_file, append}

  pub record FileRefusals : Type 0 where
    -- ---- the calls that load and write sheets
    -- loading; a refused sheet gives zeros beside the number
    pub loading : (sheet : List ℕ)
        → Refuses sheet_numbers (load_conditions sheet) (load sheet).refusal
        (((load sheet).header ≡ record { kind = 0; modulus = 0; order = 0; challenges = 0; rows = 0; columns = 0 })
        × ((load sheet).statement ≡ replicate 8 0) × (load_entries sheet ≡ replicate 8 (replicate 8 0)))
    -- the second writer; a refused call keeps the buffer's bytes and answers length 0
    pub encoding : (inst : Instance) (buffer : List ℕ)
        → Refuses (4 ∷ 5 ∷ 6 ∷ 7 ∷ 8 ∷ 10 ∷ 11 ∷ 22 ∷ []) (encode_conditions inst buffer) (encode inst buffer).answer.refusal
        (Keeps buffer (encode inst buffer))
    -- ---- the calls that read and write round files
    -- counting the rounds; a refused file has count 0
    pub counting : (sheet file : List ℕ)
        → RefusesOn sheet (12 ∷ []) (file_conditions (header_of sheet) file) (count_rounds sheet file).refusal
        ((count_rounds sheet file).count ≡ 0)
    -- the check call gives the number, and the part of a refused round is empty
    pub checking : (sheet file : List ℕ) (k : ℕ)
        → RefusesOn sheet (12 ∷ 13 ∷ []) (round_conditions (header_of sheet) file k) (check_round sheet file k)
        (part_of_round sheet file k ≡ [])
    -- and its place in the caller's own file has the offset 0 and no bytes
    pub nowhere : (sheet file : List ℕ) (k : ℕ) → 0 < check_round sheet file k
        → locate_round sheet file k ≡ record { offset = 0; length = 0 }
    -- no other part is empty: check gives 0 exactly if the part is not
    pub part : (sheet file : List ℕ) (k : ℕ) → (check_round sheet file k ≡ 0) ↔ (part_of_round sheet file k ≢ [])
    -- reading a round's values; a refused round has zeros
    pub reading : (sheet file : List ℕ) (k : ℕ)
        → RefusesOn sheet (12 ∷ 13 ∷ []) (round_conditions (header_of sheet) file k) (fetch_round sheet file k).refusal
        ((fetch_round sheet file k).round ≡ round_of (replicate 8 0) 0 (replicate 8 0))
    -- making a file of no rounds, in version 1 or 2 (02, card 7); a refused call keeps the buffer's bytes and answers length 0
    pub starting : (version : ℕ) (buffer : List ℕ)
        → Refuses (12 ∷ 22 ∷ []) (empty_conditions version buffer) (empty_file version buffer).answer.refusal
        (Keeps buffer (empty_file version buffer))
    -- the record writer, which keeps to the version of the bytes in use; likewise
    pub appending : (sheet buffer : List ℕ) (used : ℕ) (round : Round)
        → RefusesOn sheet (12 ∷ 15 ∷ 22 ∷ []) (append_conditions (header_of sheet) buffer used round)
        (append sheet buffer used round).answer.refusal (Keeps buffer (append sheet buffer used round))
