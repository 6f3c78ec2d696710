-- The converter of round files (02, card 7; refusals 2 to 12, 15 and 22): the rounds of a file of one version, written in the
-- other.
-- Assumes nothing.
use Rattle.std.specs.Prelude.{ℕ, Bool, cond, List, [], ◌∷◌, eqb}
use Rattle.types.specs.declared.Header.{Header}
use Rattle.numbers.specs.Search.{any}
use Rattle.rules.specs.Call.{Call, answer}
use Rattle.rules.specs.Rule.{◌when◌}
use Rattle.formats.specs.Append.{wide_challenge}
use Rattle.formats.specs.Load.{on_sheet}
use Rattle.formats.specs.RoundFile.{bad_file, challenge_width, count_field, file_version, record_start, round_at, width_of}
use Rattle.formats.specs.Rounds.{file_in, rounds_of}
use Rattle.formats.specs.Sheet.{header_of}
use Rattle.formats.specs.Write.{Writing, short, writing_at_start}

-- the version that is not the given one: 2 for 1, and 1 for 2
unfoldable pub other_version : ℕ → ℕ
other_version version = cond (eqb version 1) 2 1

-- some record has a challenge that the other version cannot hold (15)
unfoldable pub wide_record : Header → List ℕ → Bool
wide_record h f =
    any (count_field f) (λ k.
    wide_challenge (other_version (file_version f)) (round_at (challenge_width f) h f (record_start (challenge_width f) h k)).challenge)

-- the file's rounds in the other version
unfoldable pub converted : Header → List ℕ → List ℕ
converted h f = file_in (other_version (file_version f)) h (rounds_of h f)

-- converting a file: 12, 15 and 22, else its rounds in the other version
unfoldable pub converting : Header → List ℕ → List ℕ → Call Writing
converting h f buffer =
    writing_at_start
    ((12 when bad_file h f) ∷ (15 when wide_record h f) ∷
    (22 when short buffer (record_start (width_of (other_version (file_version f))) h (count_field f))) ∷ [])
    (converted h f) buffer

-- the converter
unfoldable pub convert : List ℕ → List ℕ → List ℕ → Writing
convert sheet f buffer = answer (on_sheet sheet (converting (header_of sheet) f buffer))
