-- `protocol::calls::judge` meets its contract: a refused sheet's number is the answer, else a refused round's, else the verdict
-- on the loaded values.
-- Assumes nothing.
use Rattle.runs.specs.Calls.{judge_round}
use Rattle.sigma.specs.Judge.{judging, judge_loaded}
use Rattle.instance.proofs.SheetLoads.{on_loaded, on_refused}
use Rattle.protocol.proofs.Judging.{judge_number, judge_verdict}
use Rattle.protocol.proofs.calls.judge.Goals as goal

pub returns-in-Ok-test_round : goal.returns-in-Ok-test_round
unfolding judge_round judge_loaded
returns-in-Ok-test_round c =
    let round = c.args.round in
    let told = c.in-Ok.ensures in
    on_loaded _ told.number told.values (λ inst. judging inst round)
    (judge_verdict _ round (c.in-Ok-test_round.ensures _ _) c.verdict.ensures)

pub returns-in-Err-test_round : goal.returns-in-Err-test_round
unfolding judge_round judge_loaded
returns-in-Err-test_round c =
    let round = c.args.round in
    let told = c.in-Ok.ensures in
    rw c.number.ensures
    (on_loaded _ told.number told.values (λ inst. judging inst round)
    (judge_number _ round c.in-Err-test_round.refusal (c.in-Err-test_round.ensures _ _)))

pub returns-in-Err : goal.returns-in-Err
unfolding judge_round judging
returns-in-Err c = rw c.number-in-Err.ensures (on_refused _ _ c.in-Err.ensures.number (judging _ c.args.round))
