-- `or_crossing::verdicts::OrJudgement::from` meets its contract: each arm has its verdict's four numbers.
-- Assumes nothing.
use Rattle.or_crossing.specs.Verdicts.{or_judgement}
use Rattle.or_crossing.proofs.verdicts.OrJudgementFromOrVerdict.from.Goals as goal

pub returns-in-OrAccepted : goal.returns-in-OrAccepted
unfolding or_judgement
returns-in-OrAccepted c = rw c.in-OrAccepted.is

pub returns-in-OrRejected : goal.returns-in-OrRejected
unfolding or_judgement
returns-in-OrRejected c = rw c.in-OrRejected.is

pub returns-in-OrRefused : goal.returns-in-OrRefused
unfolding or_judgement
returns-in-OrRefused c = rw c.in-OrRefused.is
