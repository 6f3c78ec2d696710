-- `ledger_lines::kinds::KindTryFromU32::try_from` meets its contract: the arms stand in the order of the definition.
-- Assumes nothing.
use native.Mathlib.Omega.{arith}
use borrow.Author.Tests.{ne_eqb}
use Rattle.ledger_lines.specs.Kinds.{kind_of}
use Rattle.ledger_lines.proofs.kinds.KindTryFromU32.try_from.Goals as goal

pub returns-in-1 : goal.returns-in-1
unfolding kind_of
returns-in-1 c = rw c.in-1.is

pub returns-in-2 : goal.returns-in-2
unfolding kind_of
returns-in-2 c = rw c.in-2.is

pub returns-in-3 : goal.returns-in-3
unfolding kind_of
returns-in-3 c = rw c.in-3.is

pub returns-in_default : goal.returns-in_default
unfolding kind_of
returns-in_default c =
    rw (ne_eqb c.args.number 1 (omega arith), ne_eqb c.args.number 2 (omega arith), ne_eqb c.args.number 3 (omega arith))
