-- `pairs::lower_refusal` meets its contract. Assumes nothing.
use native.Mathlib.Omega.{arith}
use Rattle.pairs.proofs.LowerNumber.{first_lower, second_lower}
use Rattle.pairs.proofs.lower_refusal.Goals as goal

pub returns-then-number : goal.returns-then-number
returns-then-number c = second_lower _ _ (omega arith)

pub returns-else-number : goal.returns-else-number
returns-else-number c = first_lower _ _ (omega arith)
