-- `crossing::verdicts::Judgement::from` meets its contract: each arm has its verdict's three numbers.
-- Assumes nothing.
use Rattle.crossing.specs.Verdicts.{judgement}
use Rattle.crossing.proofs.verdicts.JudgementFromVerdict.from.Goals as goal

pub returns-in-Accepted : goal.returns-in-Accepted
unfolding judgement
returns-in-Accepted c = rw c.in-Accepted.is

pub returns-in-Rejected : goal.returns-in-Rejected
unfolding judgement
returns-in-Rejected c = rw c.in-Rejected.is

pub returns-in-Refused : goal.returns-in-Refused
unfolding judgement
returns-in-Refused c = rw c.in-Refused.is
