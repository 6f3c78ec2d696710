-- `writer::sheet::write_sheet` meets its contract: the fixed fields, the entries and the statement stand one behind the other.
-- Assumes nothing.
use native.Mathlib.Omega.{arith}
use Rattle.sigma.specs.Instance.{instance_with}
use Rattle.formats.specs.Sheet.{sheet_length}
use Rattle.writer.proofs.Parts.{sheet_stored}
use Rattle.writer.proofs.sheet.write_sheet.Goals as goal

pub write_header-requires : goal.write_header-requires
unfolding sheet_length
write_header-requires c = omega arith

pub write_entries-end-requires-clause-h_in_bounds : goal.write_entries-end-requires-clause-h_in_bounds
unfolding sheet_length
write_entries-end-requires-clause-h_in_bounds c = omega arith

pub write_words-requires-clause-room : goal.write_words-requires-clause-room
unfolding sheet_length
write_words-requires-clause-room c = omega arith

pub returns : goal.returns
returns c =
    let args = c.args in
    rw (c.write_words.ensures.stored, c.write_entries-end.ensures.buffer_after, c.write_entries-end.ensures.value, c.write_header.ensures)
    (sheet_stored (instance_with args.h args.entries args.statement) args.buffer.now)
