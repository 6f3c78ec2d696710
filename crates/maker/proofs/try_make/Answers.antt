-- `maker::try_make` meets its contract: the whole file is tested first, and then the number that is asked for decides.
-- Assumes nothing.
use mathlib.Core.Logic.{inl}
use native.Mathlib.Omega.{arith}
use Rattle.std.proofs.lemmas.Result.{err_from_is_err_and}
use Rattle.patterns.proofs.Files.{passes_23}
use Rattle.maker.proofs.Answers.{asked_refused, file_passes, file_refused}
use Rattle.maker.proofs.try_make.Goals as goal

pub returns-in_err-test_file-clause-answer : goal.returns-in_err-test_file-clause-answer
returns-in_err-test_file-clause-answer c =
    let passed_on = err_from_is_err_and c.from_residual.result c.from_residual.ensures.1 in
    rw (passed_on.1, passed_on.2) (file_refused _ _ _ _ _ _ _ _ _ c.in_err-test_file.ensures).0

pub returns-in_err-test_file-clause-left : goal.returns-in_err-test_file-clause-left
returns-in_err-test_file-clause-left c = (file_refused _ _ _ _ _ _ _ _ _ c.in_err-test_file.ensures).1

pub make_listed-requires : goal.make_listed-requires
make_listed-requires c = record { file = file_passes _ c.in_ok-test_file.ensures; some = omega arith }

pub returns-in-0 : goal.returns-in-0
returns-in-0 c =
    let passed = file_passes _ c.in_ok-test_file.ensures in
    record {
      answer = rw c.in-0.is (c.make_root.ensures.answer _ passed);
      left = rw c.in-0.is (c.make_root.ensures.left _ passed);
    }

pub returns-in-1-to-32 : goal.returns-in-1-to-32
returns-in-1-to-32 c = record { answer = c.make_listed.ensures.answer; left = c.make_listed.ensures.left }

pub returns-in-33-to-4294967295-clause-answer : goal.returns-in-33-to-4294967295-clause-answer
returns-in-33-to-4294967295-clause-answer c =
    let passed = file_passes _ c.in_ok-test_file.ensures in
    (asked_refused _ _ _ _ _ _ _ _ passed (inl (omega (arith, ((passes_23 _).0 passed.0).few)))).0

pub returns-in-33-to-4294967295-clause-left : goal.returns-in-33-to-4294967295-clause-left
returns-in-33-to-4294967295-clause-left c =
    let passed = file_passes _ c.in_ok-test_file.ensures in
    (asked_refused _ _ _ _ _ _ _ _ passed (inl (omega (arith, ((passes_23 _).0 passed.0).few)))).1
