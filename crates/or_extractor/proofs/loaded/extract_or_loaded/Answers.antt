-- `or_extractor::loaded::extract_or_loaded` meets its contract: each return is a law of extracting.
-- Assumes nothing.
use native.Mathlib.Omega.{arith}
use Rattle.std.proofs.lemmas.Result.{err_from_is_err_and}
use Rattle.refusals.proofs.Positive.{number_positive}
use Rattle.or_judge.proofs.Verdicts.{valid_few}
use Rattle.or_extractor.proofs.Witnesses.{both_accepted, first_rejected_law, rounds_refused, second_rejected, tested_below}
use Rattle.or_extractor.proofs.loaded.extract_or_loaded.Goals as goal

pub test_rounds-requires : goal.test_rounds-requires
test_rounds-requires c =
    let pair = c.args.pair.now in
    (valid_few pair.first.valid, valid_few pair.second.valid)

pub returns-in_err-test_rounds : goal.returns-in_err-test_rounds
returns-in_err-test_rounds c =
    let pair = c.args.pair.now in
    let passed_on = err_from_is_err_and c.from_residual.result c.from_residual.ensures.1 in
    rw (passed_on.1, passed_on.2)
    (rounds_refused _ _ _ _ (c.in_err-test_rounds.ensures pair.first.entries pair.second.entries pair.first.statement pair.second.statement)
    (λ e. omega (arith, e, number_positive c.in_err-test_rounds.field-0.0)))

pub verdict_or-requires : goal.verdict_or-requires
verdict_or-requires c =
    let pair = c.args.pair.now in
    (tested_below _ _ _ _ (c.in_ok-test_rounds.ensures pair.first.entries pair.second.entries pair.first.statement pair.second.statement)).0

pub returns-in_default : goal.returns-in_default
returns-in_default c =
    let pair = c.args.pair.now in
    first_rejected_law _ _ _ _ (c.in_ok-test_rounds.ensures pair.first.entries pair.second.entries pair.first.statement pair.second.statement)
    c.verdict_or.ensures c.in_default.not-OrAccepted

pub verdict_or-requires-2 : goal.verdict_or-requires-2
verdict_or-requires-2 c =
    let pair = c.args.pair.now in
    (tested_below _ _ _ _ (c.in_ok-test_rounds.ensures pair.first.entries pair.second.entries pair.first.statement pair.second.statement)).1

pub returns-in_default-verdict_or : goal.returns-in_default-verdict_or
returns-in_default-verdict_or c =
    let pair = c.args.pair.now in
    second_rejected _ _ _ _ (c.in_ok-test_rounds.ensures pair.first.entries pair.second.entries pair.first.statement pair.second.statement)
    c.verdict_or-2.ensures c.in_default-verdict_or.not-OrAccepted

pub named_witness-requires : goal.named_witness-requires
named_witness-requires c =
    let pair = c.args.pair.now in
    both_accepted _ _ _ _ (c.in_ok-test_rounds.ensures pair.first.entries pair.second.entries pair.first.statement pair.second.statement)
    c.verdict_or.ensures c.in-OrAccepted.is c.verdict_or-2.ensures c.in-OrAccepted-verdict_or.is
