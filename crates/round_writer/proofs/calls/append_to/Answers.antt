-- `round_writer::calls::append_to` meets its contract: a refused sheet's number is passed on, else the record is written.
-- Assumes nothing.
use Rattle.std.proofs.lemmas.Result.{err_from_is_err_and}
use Rattle.formats.specs.Append.{append, appending}
use Rattle.formats.specs.Sheet.{header_of}
use Rattle.formats.proofs.Writing.{leaves}
use Rattle.instance.proofs.SheetLoads.{on_fields, on_refused}
use Rattle.round_writer.proofs.calls.append_to.Goals as goal

pub returns-in_err-values-clause-answer : goal.returns-in_err-values-clause-answer
unfolding append appending
returns-in_err-values-clause-answer c =
    let args = c.args in
    let passed_on = err_from_is_err_and c.from_residual.result c.from_residual.ensures.1 in
    rw (passed_on.1, passed_on.2)
    (leaves (on_refused _ c.in_err-values.field-0.0 c.in_err-values.ensures.number
    (appending (header_of args.sheet.now) args.buffer.now args.used args.round))).0

pub returns-in_err-values-clause-bytes : goal.returns-in_err-values-clause-bytes
unfolding append appending
returns-in_err-values-clause-bytes c =
    let args = c.args in
    (leaves (on_refused _ c.in_err-values.field-0.0 c.in_err-values.ensures.number
    (appending (header_of args.sheet.now) args.buffer.now args.used args.round))).1

pub returns-clause-answer : goal.returns-clause-answer
unfolding append
returns-clause-answer c =
    let args = c.args in
    (leaves (on_fields _ c.in_ok-values.ensures.number c.in_ok-values.ensures.values
    (λ h. appending h args.buffer.now args.used args.round)
    (λ j. record { answer = c.append_in.ensures.answer j; buffer = c.append_in.ensures.bytes j }))).0

pub returns-clause-bytes : goal.returns-clause-bytes
unfolding append
returns-clause-bytes c =
    let args = c.args in
    (leaves (on_fields _ c.in_ok-values.ensures.number c.in_ok-values.ensures.values
    (λ h. appending h args.buffer.now args.used args.round)
    (λ j. record { answer = c.append_in.ensures.answer j; buffer = c.append_in.ensures.bytes j }))).1
