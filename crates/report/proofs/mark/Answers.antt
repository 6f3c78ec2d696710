-- `report::mark` meets its contract: each return stores the text that loading, counting and the level lead to, which has room in 14,864 bytes.
-- Assumes nothing.
use native.Mathlib.Omega.{arith}
use Rattle.encoding.proofs.Fitted.{fitted_then}
use Rattle.encoding.specs.Text.{ascii}
use Rattle.report.proofs.WholeText.{file_reads, file_text, level_text, rounds_text, sheet_text, text_stored}
use Rattle.report.proofs.mark.Goals as goal

pub returns-in-Err-clause-answer : goal.returns-in-Err-clause-answer
unfolding ascii
returns-in-Err-clause-answer c = (text_stored _ _ _ (omega arith) (sheet_text _ _ _ c.in-Err.refusal c.in-Err.ensures.number c.number.ensures) c.write_line.ensures).1.0

pub returns-in-Err-clause-bytes : goal.returns-in-Err-clause-bytes
unfolding ascii
returns-in-Err-clause-bytes c = (text_stored _ _ _ (omega arith) (sheet_text _ _ _ c.in-Err.refusal c.in-Err.ensures.number c.number.ensures) c.write_line.ensures).1.1

pub returns-in-Err-count_in-clause-answer : goal.returns-in-Err-count_in-clause-answer
unfolding ascii
returns-in-Err-count_in-clause-answer c = (text_stored _ _ _ (omega arith) (
    file_text _ _ c.in-Ok.ensures.number c.in-Ok.ensures.values _ c.in-Err-count_in.refusal c.in-Err-count_in.ensures c.number-in-Err-count_in.ensures) c.write_line-in-Err-count_in.ensures).1.0

pub returns-in-Err-count_in-clause-bytes : goal.returns-in-Err-count_in-clause-bytes
unfolding ascii
returns-in-Err-count_in-clause-bytes c = (text_stored _ _ _ (omega arith) (
    file_text _ _ c.in-Ok.ensures.number c.in-Ok.ensures.values _ c.in-Err-count_in.refusal c.in-Err-count_in.ensures c.number-in-Err-count_in.ensures) c.write_line-in-Err-count_in.ensures).1.1

pub returns-in-Err-level_of-clause-answer : goal.returns-in-Err-level_of-clause-answer
unfolding ascii
returns-in-Err-level_of-clause-answer c = (text_stored _ _ _ (omega arith) (
    level_text _ _ c.in-Ok.ensures.number c.in-Ok.ensures.values c.in-Ok-count_in.ensures _ c.in-Err-level_of.refusal c.in-Err-level_of.ensures.number
    c.number-in-Err-level_of.ensures) c.write_line-in-Err-level_of.ensures).1.0

pub returns-in-Err-level_of-clause-bytes : goal.returns-in-Err-level_of-clause-bytes
unfolding ascii
returns-in-Err-level_of-clause-bytes c = (text_stored _ _ _ (omega arith) (
    level_text _ _ c.in-Ok.ensures.number c.in-Ok.ensures.values c.in-Ok-count_in.ensures _ c.in-Err-level_of.refusal c.in-Err-level_of.ensures.number
    c.number-in-Err-level_of.ensures) c.write_line-in-Err-level_of.ensures).1.1

pub write_rounds-written-requires-clause-file : goal.write_rounds-written-requires-clause-file
write_rounds-written-requires-clause-file c = (file_reads _ _ c.in-Ok.ensures.number c.in-Ok.ensures.values c.in-Ok-count_in.ensures).0

pub write_rounds-written-requires-clause-count : goal.write_rounds-written-requires-clause-count
write_rounds-written-requires-clause-count c = (file_reads _ _ c.in-Ok.ensures.number c.in-Ok.ensures.values c.in-Ok-count_in.ensures).1

pub returns-clause-answer : goal.returns-clause-answer
unfolding ascii
returns-clause-answer c =
    let level = c.in-Ok-level_of.ensures in
    let text =
    rounds_text _ _ c.in-Ok.ensures.number c.in-Ok.ensures.values c.in-Ok-count_in.ensures _ level.number level.value.0
    c.write_rounds-written.ensures.failed c.fails_at-failed.ensures in
    let lines = fitted_then c.write_line-next.ensures c.write_rounds-written.ensures.lines in
    (text_stored _ _ _ (omega arith) text (fitted_then lines c.write_result.ensures)).1.0

pub returns-clause-bytes : goal.returns-clause-bytes
unfolding ascii
returns-clause-bytes c =
    let level = c.in-Ok-level_of.ensures in
    let text =
    rounds_text _ _ c.in-Ok.ensures.number c.in-Ok.ensures.values c.in-Ok-count_in.ensures _ level.number level.value.0
    c.write_rounds-written.ensures.failed c.fails_at-failed.ensures in
    let lines = fitted_then c.write_line-next.ensures c.write_rounds-written.ensures.lines in
    (text_stored _ _ _ (omega arith) text (fitted_then lines c.write_result.ensures)).1.1
