use mathlib.Core.Path.{◌≡◌, refl}
use native.Mathlib.Nat.{mul_comm}
use native.Mathlib.Omega.{arith}
use mathlib.Core.List.{flatten}
use Rattle.lists.specs.Places.{items_at, tabulate}
use Rattle.lists.proofs.Places.{length_places}
use Rattle.lists.proofs.Rows.{row_within}
use Rattle.encoding.specs.Bytes.{bytes_of_each}
use Rattle.encoding.proofs.Placed.{placed_words}
use Rattle.formats.proofs.Entries.{entry_count_exponent, entry_count_root}
use Rattle.writer.specs.Parts.{rows_bytes}
use Rattle.writer.proofs.Parts.{rows_bytes_next, entries_bytes_exponent, entries_bytes_root}
use Rattle.writer.proofs.sheet.write_entries.Goals as goal

pub returns-then-h-ne1-clause-value : goal.returns-then-h-ne1-clause-value
returns-then-h-ne1-clause-value c =
    let args = c.args in omega (arith, entry_count_root args.h c.if-h-ne1.true)

pub returns-then-h-ne1-clause-buffer_after : goal.returns-then-h-ne1-clause-buffer_after
returns-then-h-ne1-clause-buffer_after c =
    let args = c.args in rw (entries_bytes_root args.h args.entries c.if-h-ne1.true)

pub loop-i-init : goal.loop-i-init
unfolding rows_bytes flatten tabulate items_at bytes_of_each
loop-i-init c = (record { stored = refl; behind = refl }, omega arith, omega arith, refl)

-- a row that is left fits the buffer
pub write_words-requires-clause-room : goal.write_words-requires-clause-room
write_words-requires-clause-room c =
    let h = c.args.h in
    omega (
      arith,
      row_within h.columns c.loop-i.i h.rows c.loop-i-test.true,
      mul_comm h.rows h.columns,
      entry_count_exponent h c.if-h-ne1.false,
      c.loop-i.invariant,
      c.requires.rows_bound,
      c.requires.h_in_bounds,
    )

pub loop-i-preserved : goal.loop-i-preserved
loop-i-preserved c =
    let stored = placed_words c.loop-i.invariant.0 _ _ c.write_words.ensures.stored (length_places _ _) in
    (rw rows_bytes_next stored, omega arith, omega arith, omega arith)

pub returns-clause-value : goal.returns-clause-value
returns-clause-value c =
    let h = c.args.h in
    let whole : c.loop-i.i ≡ h.rows = omega arith in
    let stored = rw (whole, ← entries_bytes_exponent h _ c.if-h-ne1.false) at c.loop-i.invariant.0.stored in
    let end = rw whole at c.loop-i.invariant.1 in omega (arith, entry_count_exponent h c.if-h-ne1.false, end, mul_comm h.rows h.columns)

pub returns-clause-buffer_after : goal.returns-clause-buffer_after
returns-clause-buffer_after c =
    let h = c.args.h in
    let whole : c.loop-i.i ≡ h.rows = omega arith in
    let stored = rw (whole, ← entries_bytes_exponent h _ c.if-h-ne1.false) at c.loop-i.invariant.0.stored in
    let end = rw whole at c.loop-i.invariant.1 in stored
