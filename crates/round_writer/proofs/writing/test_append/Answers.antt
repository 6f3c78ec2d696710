-- `round_writer::writing::test_append` meets its contract: behind the first three returns the bytes in use are a round file.
-- Assumes nothing.
use mathlib.Core.Path.{◌∙◌}
use native.Mathlib.Omega.{arith}
use Rattle.std.proofs.lemmas.Result.{err_from_is_err_and}
use Rattle.formats.specs.RoundFile.{count_field, file_version}
use Rattle.round_layout.proofs.FileTest.{file_clear, file_number, seven_bytes}
use Rattle.round_writer.proofs.FileWriting.{append_passes, in_use_refused, room_refused, wide_refused}
use Rattle.round_writer.proofs.writing.test_append.Goals as goal

pub returns-then-buffer-used : goal.returns-then-buffer-used
returns-then-buffer-used c = in_use_refused _ _ _ _ (λ u. omega (arith, u.inside))

pub returns-in_err-test_file : goal.returns-in_err-test_file
returns-in_err-test_file c =
    let (twelve, other) = file_number _ _ c.in_err-test_file.field-0.0 c.in_err-test_file.ensures in
    let passed_on = err_from_is_err_and c.from_residual.result c.from_residual.ensures.1 in
    rw (passed_on.1, passed_on.2) (twelve ∙ in_use_refused _ _ _ _ (λ u. other u.file))

pub read_u16-requires : goal.read_u16-requires
read_u16-requires c = record { within = seven_bytes _ _ c.in_ok-test_file.ensures }

pub returns-then-read_u16-ge-MOST_ROUNDS : goal.returns-then-read_u16-ge-MOST_ROUNDS
unfolding count_field
returns-then-read_u16-ge-MOST_ROUNDS c = in_use_refused _ _ _ _ (λ u. omega (arith, u.room))

pub read_u16-requires-2 : goal.read_u16-requires-2
read_u16-requires-2 c =
    omega (arith, seven_bytes _ _ c.in_ok-test_file.ensures)

pub returns-then-wide_challenge : goal.returns-then-wide_challenge
unfolding count_field file_version
returns-then-wide_challenge c =
    let file = file_clear _ _ c.in_ok-test_file.ensures in
    wide_refused _ _ _ _ (record { inside = omega arith; file = file; room = omega arith })
    c.read_u16-2.ensures.value c.wide_challenge.ensures c.if-wide_challenge.true

pub file_width-requires : goal.file_width-requires
file_width-requires c =
    omega (arith, seven_bytes _ _ c.in_ok-test_file.ensures)

pub returns-then-buffer-used-2 : goal.returns-then-buffer-used-2
unfolding count_field file_version
returns-then-buffer-used-2 c =
    let file = file_clear _ _ c.in_ok-test_file.ensures in
    room_refused _ _ _ _ (record { inside = omega arith; file = file; room = omega arith })
    c.read_u16-2.ensures.value c.wide_challenge.ensures c.if-wide_challenge.false
    c.file_width.ensures.value c.record_length.ensures.value (omega arith)

pub returns : goal.returns
unfolding count_field file_version
returns c =
    let file = file_clear _ _ c.in_ok-test_file.ensures in
    append_passes _ _ _ _ (record { inside = omega arith; file = file; room = omega arith })
    c.read_u16-2.ensures.value c.wide_challenge.ensures c.if-wide_challenge.false
    c.file_width.ensures.value c.record_length.ensures.value (omega arith)
