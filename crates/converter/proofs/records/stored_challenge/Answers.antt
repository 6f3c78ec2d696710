-- `converter::records::stored_challenge` meets its contract: the record lies inside the file.
-- Assumes nothing.
use native.Mathlib.Omega.{arith}
use Rattle.std.proofs.Common.{rules}
use Rattle.formats.specs.RoundFile.{record_length, round_at}
use Rattle.converter.proofs.RecordByRecord.{record_there}
use Rattle.converter.proofs.records.stored_challenge.Goals as goal

pub record_start-at-requires : goal.record_start-at-requires
record_start-at-requires c =
    record { rows = c.requires.rows; columns = c.requires.columns; width = search rules; number = omega (arith, c.requires.file.few) }

pub challenge_at-requires : goal.challenge_at-requires
unfolding record_length
challenge_at-requires c =
    let args = c.args in
    let fits = record_there args.h args.file.now args.k c.requires.width c.record_start-at.ensures.value c.requires.file c.requires.number in
    record { width = c.requires.known; within = omega arith }

pub returns : goal.returns
unfolding round_at
returns c = rw (c.challenge_at.ensures, c.record_start-at.ensures.value)
