-- `or_judge::calls::judge` meets its contract: a refused pair's number is the answer, else a refused round's, else the verdict on
-- the values of both sheets.
-- Assumes nothing.
use mathlib.Core.Path.{refl}
use native.Mathlib.Omega.{arith}
use Rattle.disjunctions.specs.Judge.{judge_or, judging_or}
use Rattle.refusals.proofs.Positive.{number_positive}
use Rattle.pairs.proofs.PairLoads.{on_loaded_pair, on_refused_pair}
use Rattle.or_judge.proofs.Verdicts.{or_below, or_number_law, or_verdict, valid_few}
use Rattle.or_judge.proofs.calls.judge.Goals as goal

pub test_round-requires : goal.test_round-requires
test_round-requires c =
    let pair = c.in-Ok.pair in
    (valid_few pair.first.valid, valid_few pair.second.valid)

pub verdict_or-requires : goal.verdict_or-requires
verdict_or-requires c =
    let pair = c.in-Ok.pair in
    or_below _ _ _
    (c.in-Ok-test_round.ensures pair.first.entries pair.second.entries pair.first.statement pair.second.statement) refl

pub returns-in-Ok-test_round : goal.returns-in-Ok-test_round
unfolding judge_or
returns-in-Ok-test_round c =
    let round = c.args.round in
    let told = c.in-Ok.ensures in
    on_loaded_pair _ _ told.number told.values (λ i j. judging_or i j round)
    (or_verdict _ _ round (c.in-Ok-test_round.ensures _ _ _ _) refl c.verdict_or.ensures)

pub returns-in-Err-test_round : goal.returns-in-Err-test_round
unfolding judge_or
returns-in-Err-test_round c =
    let round = c.args.round in
    let told = c.in-Ok.ensures in
    rw c.number.ensures
    (on_loaded_pair _ _ told.number told.values (λ i j. judging_or i j round)
    (or_number_law _ _ round (c.in-Err-test_round.ensures _ _ _ _) (λ e. omega (arith, e, number_positive c.in-Err-test_round.refusal))))

pub returns-in-Err : goal.returns-in-Err
unfolding judge_or judging_or
returns-in-Err c =
    rw c.number-in-Err.ensures (on_refused_pair _ _ c.in-Err.refusal c.in-Err.ensures.number (judging_or _ _ c.args.round))
