-- `writer::encode_tested` meets its contract: why the first test that applies refuses, or the sheet's length and bytes.
-- Assumes nothing.
use mathlib.Core.Path.{sym}
use native.Mathlib.Omega.{arith}
use Rattle.std.proofs.lemmas.Result.{err_from_is_err_and}
use Rattle.instance.proofs.FixedFields.{header_passes}
use Rattle.writer.proofs.Answers.{encode_elements, encode_short, encode_written}
use Rattle.writer.proofs.encode_tested.Goals as goal

pub test_elements-requires : goal.test_elements-requires
test_elements-requires c =
    let bounds = header_passes _ c.requires.fields in record { modulus = bounds.0; rows = bounds.1.0; columns = bounds.1.1 }

pub returns-in_err-test_elements-clause-answer : goal.returns-in_err-test_elements-clause-answer
returns-in_err-test_elements-clause-answer c =
    let passed_on = err_from_is_err_and c.from_residual.result c.from_residual.ensures.1 in
    rw (passed_on.1, passed_on.2) (encode_elements _ _ c.requires.fields _ c.in_err-test_elements.ensures).0

pub returns-in_err-test_elements-clause-left : goal.returns-in_err-test_elements-clause-left
returns-in_err-test_elements-clause-left c = (encode_elements _ _ c.requires.fields _ c.in_err-test_elements.ensures).1

pub sheet_length-length-requires : goal.sheet_length-length-requires
sheet_length-length-requires c =
    let both = (header_passes _ c.requires.fields).1 in record { rows = both.0; columns = both.1 }

pub returns-then-buffer-length-clause-answer : goal.returns-then-buffer-length-clause-answer
returns-then-buffer-length-clause-answer c =
    (encode_short _ _ c.requires.fields (sym c.in_ok-test_elements.ensures)
    (omega (arith, c.if-buffer-length.true, c.sheet_length-length.ensures.value))).0

pub returns-then-buffer-length-clause-left : goal.returns-then-buffer-length-clause-left
returns-then-buffer-length-clause-left c =
    (encode_short _ _ c.requires.fields (sym c.in_ok-test_elements.ensures)
    (omega (arith, c.if-buffer-length.true, c.sheet_length-length.ensures.value))).1

pub write_sheet-requires-clause-rows_bound : goal.write_sheet-requires-clause-rows_bound
write_sheet-requires-clause-rows_bound c = (header_passes _ c.requires.fields).1

pub returns-clause-answer : goal.returns-clause-answer
returns-clause-answer c =
    (encode_written _ _ c.requires.fields (sym c.in_ok-test_elements.ensures) c.sheet_length-length.ensures.value
    (omega (arith, c.if-buffer-length.false)) c.write_sheet.ensures).0

pub returns-clause-left : goal.returns-clause-left
returns-clause-left c =
    (encode_written _ _ c.requires.fields (sym c.in_ok-test_elements.ensures) c.sheet_length-length.ensures.value
    (omega (arith, c.if-buffer-length.false)) c.write_sheet.ensures).1
