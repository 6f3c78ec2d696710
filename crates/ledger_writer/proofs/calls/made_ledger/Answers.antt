-- `ledger_writer::calls::made_ledger` meets its contract: each return is a law of the answer.
-- Assumes nothing.
use Rattle.std.proofs.lemmas.Result.{err_from_is_err_and}
use Rattle.ledger_writer.proofs.Answers.{entries_refused, lines_written, not_refused, shared_refused}
use Rattle.ledger_writer.proofs.calls.made_ledger.Goals as goal

pub returns-in_err-test_base : goal.returns-in_err-test_base
returns-in_err-test_base c =
    let passed_on = err_from_is_err_and c.from_residual.result c.from_residual.ensures.1 in
    rw (passed_on.1, passed_on.2) (shared_refused _ _ _ c.in_err-test_base.ensures)

pub returns-in_err-test_entries : goal.returns-in_err-test_entries
returns-in_err-test_entries c =
    let passed_on = err_from_is_err_and c.from_residual-in_err-test_entries.result c.from_residual-in_err-test_entries.ensures.1 in
    rw (passed_on.1, passed_on.2) (entries_refused _ _ c.in_ok-test_base.ensures _ c.in_err-test_entries.ensures)

pub made_lines-requires : goal.made_lines-requires
made_lines-requires c = not_refused _ _ c.in_ok-test_base.ensures c.in_ok-test_entries.ensures

pub returns : goal.returns
returns c = lines_written _ _ c.in_ok-test_base.ensures c.in_ok-test_entries.ensures _ c.made_lines.ensures
