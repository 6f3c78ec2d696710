-- `report::level::level_of` meets its contract: each test is a part of the condition.
-- Assumes nothing.
use mathlib.Core.Path.{sym}
use mathlib.Core.Logic.{inl, inr}
use native.Mathlib.Omega.{arith}
use Rattle.report.proofs.AtLevel.{bad_number, good_number}
use Rattle.report.proofs.level.level_of.Goals as goal

pub returns-then-level-ne1-clause-number : goal.returns-then-level-ne1-clause-number
returns-then-level-ne1-clause-number c = sym (bad_number _ (inl c.if-level-ne1.true))

pub returns-then-bits-lt1-clause-number : goal.returns-then-bits-lt1-clause-number
returns-then-bits-lt1-clause-number c = sym (bad_number _ (inr (inl c.if-bits-lt1.true)))

pub returns-then-bits-gt64-clause-number : goal.returns-then-bits-gt64-clause-number
returns-then-bits-gt64-clause-number c = sym (bad_number _ (inr (inr c.if-bits-gt64.true)))

pub returns-clause-number : goal.returns-clause-number
returns-clause-number c = sym (good_number _ (omega arith) (omega arith) (omega arith))
