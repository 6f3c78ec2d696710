-- `ledger_writer::made::witness` meets its contract: the third slot is a difference mod q.
-- Assumes nothing.
use Rattle.ledger_writer.proofs.Making.{witness_is}
use Rattle.ledger_writer.proofs.made.witness.Goals as goal

pub returns : goal.returns
returns c = witness_is _ _ _ _ _ _ _ c.mul_mod.ensures.value c.sub_mod-rest.ensures.value _
