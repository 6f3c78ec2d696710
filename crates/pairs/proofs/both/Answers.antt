-- `pairs::both` meets its contract. Assumes nothing.
use Rattle.rules.proofs.Either.{lower_of}
use Rattle.pairs.proofs.LowerNumber.{lower_alone}
use Rattle.pairs.proofs.both.Goals as goal

pub returns-in-Ok-b-clause-number : goal.returns-in-Ok-b-clause-number
unfolding lower_of
returns-in-Ok-b-clause-number g c = rw (c.in-Ok.is, c.in-Ok-b.is)

pub returns-in-Err-b-clause-number : goal.returns-in-Err-b-clause-number
unfolding lower_of
returns-in-Err-b-clause-number g c = rw (c.in-Ok.is, c.in-Err-b.is)

pub returns-in-Ok-b-2-clause-number : goal.returns-in-Ok-b-2-clause-number
returns-in-Ok-b-2-clause-number g c = rw (c.in-Err.is, c.in-Ok-b-2.is) (lower_alone c.in-Err.refusal)
