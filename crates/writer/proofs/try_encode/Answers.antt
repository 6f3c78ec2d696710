-- `writer::try_encode` meets its contract: why the fixed fields are refused, or what the writer behind their tests gives and leaves.
-- Assumes nothing.
use mathlib.Core.Path.{sym}
use Rattle.std.proofs.lemmas.Result.{err_from_is_err_and}
use Rattle.writer.proofs.Answers.{encode_fields}
use Rattle.writer.proofs.try_encode.Goals as goal

pub returns-in_err-test_header-clause-answer : goal.returns-in_err-test_header-clause-answer
returns-in_err-test_header-clause-answer c =
    let passed_on = err_from_is_err_and c.from_residual.result c.from_residual.ensures.1 in
    rw (passed_on.1, passed_on.2) (encode_fields _ _ _ c.in_err-test_header.ensures).0

pub returns-in_err-test_header-clause-left : goal.returns-in_err-test_header-clause-left
returns-in_err-test_header-clause-left c = (encode_fields _ _ _ c.in_err-test_header.ensures).1

pub encode_tested-requires : goal.encode_tested-requires
encode_tested-requires c = record { fields = sym c.in_ok-test_header.ensures }
