-- `round_file::reading::count_in` meets its contract: a refused file's number is passed on, and the count stands in its field.
-- Assumes nothing.
use native.Mathlib.Omega.{arith}
use Rattle.std.proofs.lemmas.Result.{err_from_is_err_and}
use Rattle.refusals.proofs.Positive.{call_answered, call_refused}
use Rattle.formats.specs.RoundCalls.{counting}
use Rattle.formats.specs.RoundFile.{count_field}
use Rattle.round_layout.proofs.FileTest.{seven_bytes}
use Rattle.round_file.proofs.reading.count_in.Goals as goal

pub returns-in_err-test_file : goal.returns-in_err-test_file
unfolding counting
returns-in_err-test_file c =
    let passed_on = err_from_is_err_and c.from_residual.result c.from_residual.ensures.1 in
    rw (passed_on.1, passed_on.2)
    (call_refused (counting c.args.h c.args.file.now) c.in_err-test_file.field-0.0 c.in_err-test_file.ensures)

pub read_u16-requires : goal.read_u16-requires
read_u16-requires c = omega (arith, seven_bytes _ _ c.in_ok-test_file.ensures)

pub returns : goal.returns
unfolding counting count_field
returns c = rw c.read_u16.ensures.value (call_answered (counting c.args.h c.args.file.now) c.in_ok-test_file.ensures)
