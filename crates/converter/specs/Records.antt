-- The records of a round file in the other version (02, card 7).
-- Assumes nothing.
use Rattle.std.specs.Prelude.{ℕ}
use mathlib.Core.List.{List, flatten, map}
use Rattle.types.specs.declared.Header.{Header}
use Rattle.lists.specs.Places.{tabulate}
use Rattle.formats.specs.Convert.{other_version}
use Rattle.formats.specs.RoundFile.{challenge_width, file_version, record_bytes, record_start, round_at, width_of}

-- the width of a file's challenges in the other version
abbrev pub other_width : List ℕ → ℕ
other_width f = width_of (other_version (file_version f))

-- the first n rounds of a file, as records of the other version
unfoldable pub other_records : Header → List ℕ → ℕ → List ℕ
other_records h f n =
    flatten
    (map (record_bytes (other_width f) h) (tabulate n (λ k. round_at (challenge_width f) h f (record_start (challenge_width f) h k))))
