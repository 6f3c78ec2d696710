-- `or_prover::loaded::commit_loaded` meets its contract: the tests decide, and what is stored is what is read by each side.
-- Assumes nothing.
use mathlib.Core.Path.{refl}
use Rattle.std.proofs.lemmas.Result.{err_from_is_err_and}
use Rattle.refusals.proofs.Positive.{call_refused}
use Rattle.disjunctions.specs.Prover.{committing_or}
use Rattle.or_judge.proofs.Verdicts.{pair_fits, valid_few}
use Rattle.or_session.proofs.SideTests.{few_own}
use Rattle.or_prover.proofs.Given.{commit_given}
use Rattle.or_prover.proofs.Tested.{commit_below}
use Rattle.or_prover.proofs.loaded.commit_loaded.Goals as goal

pub test_commit-requires : goal.test_commit-requires
test_commit-requires c =
    let pair = c.args.pair.now in
    (valid_few pair.first.valid, valid_few pair.second.valid)

pub returns-in_err-test_commit : goal.returns-in_err-test_commit
unfolding committing_or
returns-in_err-test_commit c =
    let args = c.args in
    let pair = args.pair.now in
    let passed_on = err_from_is_err_and c.from_residual.result c.from_residual.ensures.1 in
    rw (passed_on.1, passed_on.2)
    (call_refused (committing_or _ _ args.session args.side args.nonce args.challenge args.response) c.in_err-test_commit.field-0.0
    (c.in_err-test_commit.ensures pair.first.entries pair.second.entries pair.first.statement pair.second.statement))

pub side_commitment-t0-requires : goal.side_commitment-t0-requires
side_commitment-t0-requires c =
    let pair = c.args.pair.now in
    (commit_below (pair_fits pair) _ _ _ _ _
    (c.in_ok-test_commit.ensures pair.first.entries pair.second.entries pair.first.statement pair.second.statement) refl).0

pub side_commitment-t1-requires : goal.side_commitment-t1-requires
side_commitment-t1-requires c =
    let pair = c.args.pair.now in
    (commit_below (pair_fits pair) _ _ _ _ _
    (c.in_ok-test_commit.ensures pair.first.entries pair.second.entries pair.first.statement pair.second.statement) refl).1

pub first_places-requires : goal.first_places-requires
first_places-requires c =
    let pair = c.args.pair.now in
    (few_own _ _ _ c.own-mine.ensures (valid_few pair.first.valid, valid_few pair.second.valid)).2

pub first_places-requires-2 : goal.first_places-requires-2
first_places-requires-2 c =
    let pair = c.args.pair.now in
    (few_own _ _ _ c.own-yours.ensures (valid_few pair.second.valid, valid_few pair.first.valid)).2

pub returns : goal.returns
returns c =
    let pair = c.args.pair.now in
    commit_given (pair_fits pair) _ _ _ _ _
    (c.in_ok-test_commit.ensures pair.first.entries pair.second.entries pair.first.statement pair.second.statement) refl
    c.own-mine.ensures c.own-yours.ensures
    c.first_places.ensures c.first_places-2.ensures
    c.side_commitment-t0.ensures c.side_commitment-t1.ensures c.own.ensures
