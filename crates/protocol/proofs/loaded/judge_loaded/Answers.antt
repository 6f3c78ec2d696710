-- `protocol::loaded::judge_loaded` meets its contract: a refused round's number is the answer, else the verdict.
-- Assumes nothing.
use Rattle.protocol.proofs.Judging.{judge_number, judge_verdict}
use Rattle.protocol.proofs.loaded.judge_loaded.Goals as goal

pub returns-in-Ok : goal.returns-in-Ok
returns-in-Ok c = judge_verdict _ _ (c.in-Ok.ensures _ _) c.verdict.ensures

pub returns-in-Err : goal.returns-in-Err
returns-in-Err c = rw c.number.ensures (judge_number _ _ c.in-Err.refusal (c.in-Err.ensures _ _))
