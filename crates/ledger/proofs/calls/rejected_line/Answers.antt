-- `ledger::calls::rejected_line` meets its contract: each return is a law of the answer.
-- Assumes nothing.
use Rattle.std.proofs.lemmas.Result.{err_from_is_err_and}
use mathlib.Core.Path.{sym}
use Rattle.ledger_lines.proofs.BaseRules.{shared_modulus}
use Rattle.ledger.proofs.Answers.{line_told, lines_refused, not_refused, shared_refused}
use Rattle.ledger.proofs.calls.rejected_line.Goals as goal

pub returns-in_err-test_base : goal.returns-in_err-test_base
returns-in_err-test_base c =
    let passed_on = err_from_is_err_and c.from_residual.result c.from_residual.ensures.1 in
    rw (passed_on.1, passed_on.2) (shared_refused _ _ _ c.in_err-test_base.ensures)

pub test_lines-requires : goal.test_lines-requires
test_lines-requires c = shared_modulus c.args.base (sym c.in_ok-test_base.ensures)

pub returns-in_err-test_lines : goal.returns-in_err-test_lines
returns-in_err-test_lines c =
    let passed_on = err_from_is_err_and c.from_residual-in_err-test_lines.result c.from_residual-in_err-test_lines.ensures.1 in
    rw (passed_on.1, passed_on.2) (lines_refused _ _ c.in_ok-test_base.ensures _ c.in_err-test_lines.ensures)

pub first_rejected-requires : goal.first_rejected-requires
first_rejected-requires c = not_refused _ _ c.in_ok-test_base.ensures c.in_ok-test_lines.ensures

pub returns : goal.returns
returns c = line_told _ _ c.in_ok-test_base.ensures c.in_ok-test_lines.ensures _ c.first_rejected.ensures
