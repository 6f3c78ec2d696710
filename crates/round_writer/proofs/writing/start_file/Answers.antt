-- `round_writer::writing::start_file` meets its contract: the three fields of a file of no rounds stand one behind the other.
-- Assumes nothing.
use native.Mathlib.Omega.{arith}
use Rattle.encoding.specs.Text.{ascii}
use Rattle.formats.specs.RoundFile.{round_mark}
use Rattle.round_writer.proofs.FileWriting.{empty_made, empty_none, empty_unknown}
use Rattle.round_writer.proofs.writing.start_file.Goals as goal

pub returns-then-unknown_version-clause-answer : goal.returns-then-unknown_version-clause-answer
returns-then-unknown_version-clause-answer c = (empty_unknown _ _ c.unknown_version.ensures c.if-unknown_version.true).0

pub returns-then-unknown_version-clause-bytes : goal.returns-then-unknown_version-clause-bytes
returns-then-unknown_version-clause-bytes c = (empty_unknown _ _ c.unknown_version.ensures c.if-unknown_version.true).1

pub returns-then-buffer-lt-START-clause-answer : goal.returns-then-buffer-lt-START-clause-answer
returns-then-buffer-lt-START-clause-answer c = (empty_none _ _ c.unknown_version.ensures c.if-unknown_version.false (omega (arith, c.if-buffer-lt-START.true))).0

pub returns-then-buffer-lt-START-clause-bytes : goal.returns-then-buffer-lt-START-clause-bytes
returns-then-buffer-lt-START-clause-bytes c = (empty_none _ _ c.unknown_version.ensures c.if-unknown_version.false (omega (arith, c.if-buffer-lt-START.true))).1

pub returns-clause-answer : goal.returns-clause-answer
unfolding round_mark ascii
returns-clause-answer c = (empty_made _ _ c.unknown_version.ensures c.if-unknown_version.false (omega arith) c.write_mark.ensures.stored
    c.write_u16.ensures.stored c.write_u16-2.ensures.stored).0

pub returns-clause-bytes : goal.returns-clause-bytes
unfolding round_mark ascii
returns-clause-bytes c = (empty_made _ _ c.unknown_version.ensures c.if-unknown_version.false (omega arith) c.write_mark.ensures.stored
    c.write_u16.ensures.stored c.write_u16-2.ensures.stored).1
