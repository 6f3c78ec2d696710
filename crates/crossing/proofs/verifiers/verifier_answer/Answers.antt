-- `crossing::verifiers::verifier_answer` meets its contract: the number decides which session is handed back.
-- Assumes nothing.
use Prim.Native.Nat.{◌<◌}
use mathlib.Core.Path.{◌≡◌}
use native.Mathlib.Omega.{arith}
use Rattle.rules.proofs.Answer.{unless_refused_zero, unless_refused_positive}
use Rattle.crossing.specs.Verifiers.{verifier_answer}
use Rattle.crossing.proofs.verifiers.verifier_answer.Goals as goal

pub returns-then-refusal-ne0 : goal.returns-then-refusal-ne0
unfolding verifier_answer
returns-then-refusal-ne0 c =
    let refused : 0 < c.args.step.refusal = omega arith in
    rw (unless_refused_positive _ _ _ refused)

pub returns : goal.returns
unfolding verifier_answer
returns c =
    let passed : c.args.step.refusal ≡ 0 = omega arith in
    rw (c.from.ensures, passed, unless_refused_zero)
