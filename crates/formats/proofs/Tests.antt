-- What each test of bytes says: it is true exactly when 01's condition holds ("Turned back", 2, 9, 12 and 22; 02, card 7, for 15).
-- Assumes nothing.
use Prim.Native.Nat.{ℕ, ◌<◌, ◌≤◌}
use mathlib.Core.Path.{◌≡◌}
use mathlib.Core.Logic.{◌⊎◌, ◌≢◌}
use mathlib.Core.Bool.{or_assoc}
use mathlib.Core.List.{List}
use lib.ListN.{length, take}
use Rattle.types.specs.declared.Header.{Header}
use Rattle.rules.specs.Says.{Says}
use Rattle.rules.proofs.Says.{says_less, says_at_most, says_equal, says_and, says_or, says_not}
use Rattle.sigma.specs.Reads.{Differ}
use Rattle.sigma.proofs.Comparison.{says_differ}
use Rattle.formats.specs.Append.{bad_in_use, wide_challenge}
use Rattle.formats.specs.Load.{bad_start, bad_length}
use Rattle.formats.specs.Meaning.{IsVersion}
use Rattle.formats.specs.Refusals.{Refusal12}
use Rattle.formats.specs.RoundFile.{bad_file, challenge_width, count_field, file_version, record_start, round_mark, unknown_version}
use Rattle.formats.specs.Sheet.{header_of, sheet_length, sheet_mark}
use Rattle.formats.specs.Write.{short}

-- ---- sheets

-- 2: under 20 bytes, or another mark
pub says_bad_start : (s : List ℕ) → Says (bad_start s) ((length s < 20) ⊎ Differ 3 s sheet_mark)
unfolding bad_start
says_bad_start s = says_or (says_less (length s) 20) (says_differ 3 s sheet_mark)

-- 9: the length is not exactly what the header gives
pub says_bad_length : (s : List ℕ) → Says (bad_length s) (length s ≢ sheet_length (header_of s))
unfolding bad_length
says_bad_length s = says_not (says_equal (length s) (sheet_length (header_of s)))

-- ---- round files

-- 12: a version other than 1 and 2
pub says_unknown_version : (version : ℕ) → Says (unknown_version version) (¬ IsVersion version)
unfolding unknown_version
says_unknown_version version = says_not (says_or (says_equal version 1) (says_equal version 2))

-- 12: under 7 bytes, another mark, a version other than 1 and 2, a count above 512 or a length that does not fit
pub says_bad_file : (h : Header) (f : List ℕ) → Says (bad_file h f) (Refusal12 h f)
unfolding bad_file
says_bad_file h f =
    simp or_assoc
    (says_or (says_less (length f) 7)
    (says_or (says_differ 3 f round_mark)
    (says_or (says_unknown_version (file_version f))
    (says_or (says_less 512 (count_field f))
    (says_not (says_equal (length f) (record_start (challenge_width f) h (count_field f))))))))

-- 12, for the writer: more bytes in use than the buffer has, no file in those bytes, or 512 rounds already
pub says_bad_in_use : (h : Header) (buffer : List ℕ) (used : ℕ)
    → Says (bad_in_use h buffer used)
    ((length buffer < used) ⊎ Refusal12 h (take used buffer) ⊎ (512 ≤ count_field (take used buffer)))
unfolding bad_in_use
says_bad_in_use h buffer used =
    simp or_assoc
    (says_or (says_less (length buffer) used)
    (says_or (says_bad_file h (take used buffer)) (says_at_most 512 (count_field (take used buffer)))))

-- 15, for the writer: a challenge above 65,535 in version 2
pub says_wide_challenge : (version c : ℕ) → Says (wide_challenge version c) ((version ≡ 2) × (65535 < c))
unfolding wide_challenge
says_wide_challenge version c = says_and (says_equal version 2) (says_less 65535 c)

-- ---- the lent buffer

-- 22: the buffer is shorter than the result
pub says_short : (buffer : List ℕ) (needed : ℕ) → Says (short buffer needed) (length buffer < needed)
unfolding short
says_short buffer needed = says_less (length buffer) needed
