-- The conditions of 01's refusals on bytes ("Turned back", 2, 3, 9, 12, 13 and 22; 02, card 7, for 15), as facts, and which of
-- them each call asks, in order.
-- Assumes nothing.
use Rattle.std.specs.Prelude.{ℕ, ◌+◌, ◌*◌, ◌<◌, ◌≤◌, ◌≡◌, ◌⊎◌, ◌≢◌, List, [], ◌∷◌, ◌++◌, length, take}
use Rattle.types.specs.declared.Header.{Header}
use Rattle.types.specs.declared.Round.{Round}
use Rattle.encoding.specs.Bytes.{number_at}
use Rattle.rules.specs.Condition.{Condition, ◌if◌}
use Rattle.rules.specs.Order.{sheet_numbers}
use Rattle.rules.specs.Refuses.{Refuses}
use Rattle.sigma.specs.Instance.{Instance}
use Rattle.sigma.specs.Reads.{Differ}
use Rattle.sigma.specs.Refusals.{header_conditions, element_conditions}
use Rattle.formats.specs.Meaning.{IsVersion, record_size}
use Rattle.formats.specs.RoundFile.{
  challenge_width,
  count_field,
  file_version,
  record_length,
  record_start,
  round_mark,
  width_in_use,
}
use Rattle.formats.specs.Sheet.{header_of, instance_of, sheet_length, sheet_mark, version_of}

-- the file has under 7 bytes, another mark, a version other than 1 and 2, a count above 512 or a length that does not fit
abbrev pub Refusal12 : Header → List ℕ → Type 0
Refusal12 h f =
    (length f < 7) ⊎ Differ 3 f round_mark ⊎ (¬ IsVersion (file_version f)) ⊎ (512 < count_field f) ⊎
    (length f ≢ record_start (challenge_width f) h (count_field f))

-- a sheet's shape; 2 is for under 20 bytes or another mark, and 9 for a length that is not exactly what the header gives
abbrev pub shape_conditions : List ℕ → List Condition
shape_conditions s =
    (2 if ((length s < 20) ⊎ Differ 3 s sheet_mark)) ∷
    (3 if (version_of s ≢ 1)) ∷
    (header_conditions (header_of s) ++ (9 if (length s ≢ sheet_length (header_of s))) ∷ [])

-- loading a sheet
abbrev pub load_conditions : List ℕ → List Condition
load_conditions s = shape_conditions s ++ element_conditions (instance_of s)

-- a call on a sheet: the sheet's conditions come first, then the call's own
abbrev pub RefusesOn : List ℕ → List ℕ → List Condition → ℕ → Type 0 → Type 0
RefusesOn sheet numbers conditions n Left = Refuses (sheet_numbers ++ numbers) (load_conditions sheet ++ conditions) n Left

-- the second writer; 22 is for a buffer that is shorter than the result
abbrev pub encode_conditions : Instance → List ℕ → List Condition
encode_conditions inst buffer =
    header_conditions inst.header ++ element_conditions inst ++ (22 if (length buffer < sheet_length inst.header)) ∷ []

-- a round file
abbrev pub file_conditions : Header → List ℕ → List Condition
file_conditions h f = (12 if Refusal12 h f) ∷ []

-- a round of a file; 13 is for a round number at or beyond the file's count
abbrev pub round_conditions : Header → List ℕ → ℕ → List Condition
round_conditions h f k = (12 if Refusal12 h f) ∷ (13 if (count_field f ≤ k)) ∷ []

-- the empty file, of seven bytes; 12 is for a version other than 1 and 2
abbrev pub empty_conditions : ℕ → List ℕ → List Condition
empty_conditions version buffer = (12 if (¬ IsVersion version)) ∷ (22 if (length buffer < 7)) ∷ []

-- the record writer; 12 is for more bytes in use than the buffer has, no file in those bytes, or 512 rounds already, and 15 for a
-- challenge above 65,535 where the bytes in use are of version 2
abbrev pub append_conditions : Header → List ℕ → ℕ → Round → List Condition
append_conditions h buffer used round =
    (12 if ((length buffer < used) ⊎ Refusal12 h (take used buffer) ⊎ (512 ≤ count_field (take used buffer)))) ∷
    (15 if ((file_version (take used buffer) ≡ 2) × (65535 < round.challenge))) ∷
    (22 if (length buffer < used + record_length (width_in_use buffer used) h)) ∷ []

-- comparing the commitments of two rounds; 13 is for either number at or beyond the file's count
abbrev pub same_conditions : Header → List ℕ → ℕ → ℕ → List Condition
same_conditions h f i j = (12 if Refusal12 h f) ∷ (13 if ((count_field f ≤ i) ⊎ (count_field f ≤ j))) ∷ []

-- the converter; 15 is for a record of a version 1 file, wherever it stands, whose challenge is above 65,535, and 22 for a
-- buffer that is shorter than the result, whose challenges have two bytes for a file of version 1, else four
abbrev pub convert_conditions : Header → List ℕ → List ℕ → List Condition
convert_conditions h f buffer =
    (12 if Refusal12 h f) ∷
    (15 if
    ((file_version f ≡ 1) × ((k : ℕ) × (k < count_field f) ×
    (65535 < number_at 4 f (7 + k * record_size 4 h + 4 * h.rows))))) ∷
    (22 if
    (((file_version f ≡ 1) × (length buffer < 7 + count_field f * record_size 2 h)) ⊎
    ((file_version f ≢ 1) × (length buffer < 7 + count_field f * record_size 4 h)))) ∷ []
