-- `round_words::same_in` meets its contract: each return is a law of comparing.
-- Assumes nothing.
use mathlib.Core.Logic.{inl, inr}
use native.Mathlib.Omega.{arith}
use Rattle.std.proofs.lemmas.Result.{err_from_is_err_and}
use Rattle.formats.specs.RoundFile.{count_field}
use Rattle.round_layout.proofs.FileTest.{seven_bytes}
use Rattle.round_words.proofs.Comparing.{commitment_fits, number_small, same_beyond, same_compared, same_file}
use Rattle.round_words.proofs.same_in.Goals as goal

pub returns-in_err-test_file : goal.returns-in_err-test_file
returns-in_err-test_file c =
    let passed_on = err_from_is_err_and c.from_residual.result c.from_residual.ensures.1 in
    rw (passed_on.1, passed_on.2) (same_file _ _ c.in_err-test_file.field-0.0 c.in_err-test_file.ensures _ _)

pub read_u16-count-requires : goal.read_u16-count-requires
read_u16-count-requires c = omega (arith, seven_bytes _ _ c.in_ok-test_file.ensures)

pub returns-then-count-i : goal.returns-then-count-i
unfolding count_field
returns-then-count-i c =
    same_beyond _ _ c.in_ok-test_file.ensures _ _
    (elim c.then-count-i.either [ inl first ↦ inl (omega arith) | inr second ↦ inr (omega arith) ])

pub file_width-width-requires : goal.file_width-width-requires
file_width-width-requires c =
    omega (arith, seven_bytes _ _ c.in_ok-test_file.ensures)

pub record_start-a-requires-clause-number : goal.record_start-a-requires-clause-number
unfolding count_field
record_start-a-requires-clause-number c =
    omega (arith, number_small _ _ c.in_ok-test_file.ensures c.args.i (omega arith))

pub record_start-b-requires-clause-number : goal.record_start-b-requires-clause-number
unfolding count_field
record_start-b-requires-clause-number c =
    omega (arith, number_small _ _ c.in_ok-test_file.ensures c.args.j (omega arith))

pub words_agree-requires-clause-first : goal.words_agree-requires-clause-first
unfolding count_field
words_agree-requires-clause-first c =
    let width = c.file_width-width.ensures.value in commitment_fits _ _ c.in_ok-test_file.ensures width _ (omega arith) c.record_start-a.ensures.value

pub words_agree-requires-clause-second : goal.words_agree-requires-clause-second
unfolding count_field
words_agree-requires-clause-second c =
    let width = c.file_width-width.ensures.value in commitment_fits _ _ c.in_ok-test_file.ensures width _ (omega arith) c.record_start-b.ensures.value

pub returns : goal.returns
unfolding count_field
returns c =
    same_compared _ _ c.in_ok-test_file.ensures c.file_width-width.ensures.value _ _ (omega arith) (omega arith)
    c.record_start-a.ensures.value c.record_start-b.ensures.value c.words_agree.ensures
