-- `or_judge::sides::combined` meets its contract: each arm is a clause of the definition.
-- Assumes nothing.
use Rattle.disjunctions.specs.Judge.{combined}
use Rattle.or_judge.proofs.sides.combined.Goals as goal

pub returns-in-Accepted-Accepted : goal.returns-in-Accepted-Accepted
unfolding combined
returns-in-Accepted-Accepted c = rw (c.in-Accepted-Accepted.is-0, c.in-Accepted-Accepted.is-1)

pub returns-in-Accepted-Rejected : goal.returns-in-Accepted-Rejected
unfolding combined
returns-in-Accepted-Rejected c = rw (c.in-Accepted-Rejected.is-0, c.in-Accepted-Rejected.is-1)

pub returns-in-Accepted-Refused : goal.returns-in-Accepted-Refused
unfolding combined
returns-in-Accepted-Refused c = rw (c.in-Accepted-Refused.is-0, c.in-Accepted-Refused.is-1)

pub returns-in-Rejected-Accepted : goal.returns-in-Rejected-Accepted
unfolding combined
returns-in-Rejected-Accepted c = rw (c.in-Rejected-Accepted.is-0, c.in-Rejected-Accepted.is-1)

pub returns-in-Rejected-Rejected : goal.returns-in-Rejected-Rejected
unfolding combined
returns-in-Rejected-Rejected c = rw (c.in-Rejected-Rejected.is-0, c.in-Rejected-Rejected.is-1)

pub returns-in-Rejected-Refused : goal.returns-in-Rejected-Refused
unfolding combined
returns-in-Rejected-Refused c = rw (c.in-Rejected-Refused.is-0, c.in-Rejected-Refused.is-1)

pub returns-in-Refused-default : goal.returns-in-Refused-default
unfolding combined
returns-in-Refused-default c = rw c.in-Refused-default.is-0
