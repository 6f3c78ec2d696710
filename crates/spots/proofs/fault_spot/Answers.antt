-- `spots::fault_spot` meets its contract: each return is the branch of the definition that its test chooses.
-- Assumes nothing.
use mathlib.Core.Bool.{not}
use mathlib.Core.Path.{ap}
use native.Mathlib.Omega.{arith}
use Rattle.encoding.specs.Text.{ascii}
use Rattle.formats.specs.RoundFile.{count_field, file_version, round_mark}
use Rattle.spots.proofs.FileFault.{count_told, length_told, mark_told, short_told, version_told}
use Rattle.spots.proofs.fault_spot.Goals as goal

pub returns-then-file-lt-START : goal.returns-then-file-lt-START
returns-then-file-lt-START c n other same = short_told _ _ _ other same c.if-file-lt-START.true

pub returns-then-not-has_mark : goal.returns-then-not-has_mark
unfolding round_mark ascii
returns-then-not-has_mark c n other same =
    mark_told _ _ _ other same c.if-file-lt-START.false c.has_mark.ensures.value (ap not c.if-not-has_mark.true)

pub returns-then-unknown_version : goal.returns-then-unknown_version
unfolding round_mark ascii file_version
returns-then-unknown_version c n other same =
    version_told _ _ _ other same c.if-file-lt-START.false c.has_mark.ensures.value (ap not c.if-not-has_mark.false)
    c.read_u16.ensures.value c.unknown_version.ensures c.if-unknown_version.true

pub returns-then-read_u16-gt-MOST_ROUNDS : goal.returns-then-read_u16-gt-MOST_ROUNDS
unfolding round_mark ascii file_version count_field
returns-then-read_u16-gt-MOST_ROUNDS c n other same =
    count_told _ _ _ other same c.if-file-lt-START.false c.has_mark.ensures.value (ap not c.if-not-has_mark.false)
    c.read_u16.ensures.value c.unknown_version.ensures c.if-unknown_version.false (omega arith)

pub returns : goal.returns
unfolding round_mark ascii file_version count_field
returns c n other same =
    length_told _ _ _ other same c.if-file-lt-START.false c.has_mark.ensures.value (ap not c.if-not-has_mark.false)
    c.read_u16.ensures.value c.unknown_version.ensures c.if-unknown_version.false (omega arith)
