-- The calls that write a round file (01, "A round"; 02, card 7; refusals 2 to 12, 15 and 22).
-- Assumes nothing.
use Rattle.std.specs.Prelude.{ℕ, ◌+◌, Bool, ◌&&◌, ◌||◌, List, [], ◌∷◌, eqb, leb, ltb, length, take}
use Rattle.std.proofs.lemmas.List.Edits.{sets}
use Rattle.types.specs.declared.Header.{Header}
use Rattle.types.specs.declared.Round.{Round}
use Rattle.encoding.specs.Bytes.{bytes_of}
use Rattle.rules.specs.Call.{Call, answer}
use Rattle.rules.specs.Rule.{◌when◌}
use Rattle.formats.specs.Load.{on_sheet}
use Rattle.formats.specs.RoundFile.{
  bad_file,
  count_field,
  file_version,
  no_rounds,
  record_bytes,
  record_length,
  unknown_version,
  width_in_use,
}
use Rattle.formats.specs.Sheet.{header_of}
use Rattle.formats.specs.Write.{Writing, short, writing, writing_at_start}

-- making a file of no rounds, in the version that is wished for: 12 and 22, else its bytes
unfoldable pub starting : ℕ → List ℕ → Call Writing
starting version buffer =
    writing_at_start ((12 when unknown_version version) ∷ (22 when short buffer (length (no_rounds version))) ∷ []) (no_rounds version)
    buffer

-- the call that makes a file of no rounds, in either version
unfoldable pub empty_file : ℕ → List ℕ → Writing
empty_file version buffer = answer (starting version buffer)

-- more bytes in use than the buffer has, bytes in use that are no file of the sheet, or 512 rounds already (12)
unfoldable pub bad_in_use : Header → List ℕ → ℕ → Bool
bad_in_use h buffer used =
    ltb (length buffer) used || bad_file h (take used buffer) || leb 512 (count_field (take used buffer))

-- a challenge above 65,535, which a record of version 2 cannot hold (15)
unfoldable pub wide_challenge : ℕ → ℕ → Bool
wide_challenge version c = eqb version 2 && ltb 65535 c

-- the buffer with a record straight after the bytes in use and the count field raised by one
unfoldable pub appended : Header → List ℕ → ℕ → Round → List ℕ
appended h buffer used round =
    sets (sets buffer used (record_bytes (width_in_use buffer used) h round)) 5 (bytes_of 2 (count_field buffer + 1))

-- writing a record: 12, 15 and 22, else how many bytes are then in use
unfoldable pub appending : Header → List ℕ → ℕ → Round → Call Writing
appending h buffer used round =
    let next : ℕ = used + record_length (width_in_use buffer used) h in
    writing
    ((12 when bad_in_use h buffer used) ∷ (15 when wide_challenge (file_version (take used buffer)) round.challenge) ∷
    (22 when short buffer next) ∷ [])
    next (appended h buffer used round) buffer

-- the record writer
unfoldable pub append : List ℕ → List ℕ → ℕ → Round → Writing
append sheet buffer used round = answer (on_sheet sheet (appending (header_of sheet) buffer used round))
