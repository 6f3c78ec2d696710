-- `ledger_writer::made::product_line` meets its contract: what is computed is the honest round and the commitment of the definition.
-- Assumes nothing.
use Rattle.ledger_writer.proofs.Making.{line_with, product_made}
use Rattle.ledger_writer.proofs.made.product_line.Goals as goal

pub returns : goal.returns
unfolding line_with
returns c = λ above one two.
    product_made c.args.base _ _ _ c.args.entry.now above one two _ _ _ _ _ _ _ c.product_header-h.ensures
    c.commit.ensures c.product_entries.ensures c.image-t.ensures c.witness-x.ensures
    c.response-r.ensures c.commit-2.ensures
