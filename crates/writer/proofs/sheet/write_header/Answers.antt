-- `writer::sheet::write_header` meets its contract: the fixed fields stand one behind the other.
-- Assumes nothing.
use Rattle.encoding.specs.Text.{ascii}
use Rattle.encoding.proofs.Placed.{placed_stored, placed_number}
use Rattle.formats.specs.Encode.{header_bytes}
use Rattle.formats.specs.Sheet.{sheet_mark}
use Rattle.writer.proofs.sheet.write_header.Goals as goal

pub returns : goal.returns
unfolding header_bytes sheet_mark ascii
returns c =
    let start = placed_stored c.args.buffer.now 0 sheet_mark c.write_mark.ensures.stored in
    let versioned = placed_number start 2 1 c.write_u16.ensures.stored in
    let kinded = placed_number versioned 1 _ c.write_u8.ensures.stored in
    let m = placed_number kinded 4 _ c.write_u32.ensures.stored in
    let l = placed_number m 4 _ c.write_u32-2.ensures.stored in
    let k = placed_number l 4 _ c.write_u32-3.ensures.stored in
    let s = placed_number k 1 _ c.write_u8-2.ensures.stored in
    (placed_number s 1 _ c.write_u8-3.ensures.stored).stored
