-- `round_writer::record::write_record` meets its contract: the three fields of a record stand one behind the other.
-- Assumes nothing.
use native.Mathlib.Omega.{arith}
use Rattle.formats.specs.RoundFile.{record_length}
use Rattle.round_writer.proofs.FileWriting.{record_stored}
use Rattle.round_writer.proofs.record.write_record.Goals as goal

pub write_words-requires-clause-room : goal.write_words-requires-clause-room
unfolding record_length
write_words-requires-clause-room c = omega arith

pub write_challenge-requires-clause-room : goal.write_challenge-requires-clause-room
unfolding record_length
write_challenge-requires-clause-room c = omega arith

pub write_words-requires-2-clause-room : goal.write_words-requires-2-clause-room
unfolding record_length
write_words-requires-2-clause-room c = omega arith

pub returns : goal.returns
returns c =
    let args = c.args in
    record {
      stored = record_stored args.width args.h args.round args.part.now c.write_words.ensures.stored
          c.write_challenge.ensures.stored c.write_words-2.ensures.stored;
    }
