-- `ledger_writer::made::made_lines` meets its contract. The invariant: the lines before i are made, and the array keeps what these lines
-- open to. Assumes nothing.
use Rattle.lists.proofs.Filling.{Filled}
use Rattle.ledgers.specs.Write.{made_line, openings}
use Rattle.ledger_writer.proofs.Opening.{KeptOpenings}
use Rattle.ledger_writer.proofs.made.made_lines.Given as goal

abbrev pub invariant-loop-i : goal.invariant-loop-i
invariant-loop-i l =
    Filled l.initial.lines l.fn.entries.count (made_line l.base l.fn.entries) l.lines l.i
    × KeptOpenings l.above (openings l.base.order l.fn.entries l.i)
