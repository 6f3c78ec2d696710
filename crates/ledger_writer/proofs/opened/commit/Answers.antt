-- `ledger_writer::opened::commit` meets its contract: two powers are multiplied.
-- Assumes nothing.
use Rattle.ledger_writer.proofs.Making.{commit_is}
use Rattle.ledger_writer.proofs.opened.commit.Goals as goal

pub returns : goal.returns
returns c =
    commit_is c.args.base _ _ _ _ _ c.pow_mod.ensures.value c.pow_mod-2.ensures.value
    c.mul_mod.ensures.value
