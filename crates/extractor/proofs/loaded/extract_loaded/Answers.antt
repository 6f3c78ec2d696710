-- `extractor::loaded::extract_loaded` meets its contract: each return is a law of extracting.
-- Assumes nothing.
use native.Mathlib.Omega.{arith}
use Rattle.std.proofs.lemmas.Result.{err_from_is_err_and}
use Rattle.extractor.proofs.Extracting.{pair_refused, first_rejected_law, second_rejected, both_accepted}
use Rattle.extractor.proofs.Extracting.{swapped_rounds, witness_fits, witness_given, witness_swapped}
use Rattle.extractor.proofs.loaded.extract_loaded.Goals as goal

pub returns-in_err-test_pair : goal.returns-in_err-test_pair
returns-in_err-test_pair c =
    let sheet = c.args.sheet.now in
    let passed_on = err_from_is_err_and c.from_residual.result c.from_residual.ensures.1 in
    rw (passed_on.1, passed_on.2)
    (pair_refused _ _ _ c.in_err-test_pair.field-0.0 (c.in_err-test_pair.ensures sheet.entries sheet.statement))

pub returns-in_default : goal.returns-in_default
returns-in_default c =
    let sheet = c.args.sheet.now in
    let none = c.in_ok-test_pair.ensures sheet.entries sheet.statement in
    first_rejected_law _ _ _ none c.verdict.ensures c.in_default.not-Accepted

pub returns-in_default-verdict : goal.returns-in_default-verdict
returns-in_default-verdict c =
    let sheet = c.args.sheet.now in
    let none = c.in_ok-test_pair.ensures sheet.entries sheet.statement in
    second_rejected _ _ _ none c.verdict-2.ensures c.in_default-verdict.not-Accepted

pub witness-requires : goal.witness-requires
witness-requires c =
    let sheet = c.args.sheet.now in
    let ready =
    both_accepted _ _ _ (c.in_ok-test_pair.ensures sheet.entries sheet.statement) sheet.valid c.verdict.ensures c.in-Accepted.is
    c.verdict-2.ensures c.in-Accepted-verdict.is in
    witness_fits sheet.valid _ _ ready c.if-first-second.true

pub returns-then-first-second : goal.returns-then-first-second
returns-then-first-second c =
    let sheet = c.args.sheet.now in
    let ready =
    both_accepted _ _ _ (c.in_ok-test_pair.ensures sheet.entries sheet.statement) sheet.valid c.verdict.ensures c.in-Accepted.is
    c.verdict-2.ensures c.in-Accepted-verdict.is in
    witness_given sheet.valid _ _ ready c.if-first-second.true (c.witness.ensures sheet.entries)

pub witness-requires-2 : goal.witness-requires-2
witness-requires-2 c =
    let sheet = c.args.sheet.now in
    let ready =
    both_accepted _ _ _ (c.in_ok-test_pair.ensures sheet.entries sheet.statement) sheet.valid c.verdict.ensures c.in-Accepted.is
    c.verdict-2.ensures c.in-Accepted-verdict.is in
    witness_fits sheet.valid _ _ (swapped_rounds ready) (omega (arith, ready.challenges, c.if-first-second.false))

pub returns : goal.returns
returns c =
    let sheet = c.args.sheet.now in
    let ready =
    both_accepted _ _ _ (c.in_ok-test_pair.ensures sheet.entries sheet.statement) sheet.valid c.verdict.ensures c.in-Accepted.is
    c.verdict-2.ensures c.in-Accepted-verdict.is in
    witness_swapped sheet.valid _ _ (swapped_rounds ready) (omega (arith, ready.challenges, c.if-first-second.false))
    (c.witness-2.ensures sheet.entries)
