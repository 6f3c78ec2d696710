-- The kind that a number stands for.
-- Assumes nothing.
use Rattle.std.specs.Prelude.{ℕ, cond, eqb, Result, Ok, Err}
use Rattle.refusals.specs.declared.Refusal.{Refusal}
use Rattle.refusals.specs.declared.Refusal.TheVariants.{LineKind}
use Rattle.ledger_lines.specs.declared.kinds.Kind.{Kind}
use Rattle.ledger_lines.specs.declared.kinds.Kind.TheVariants.{Commitment, Sum, Product}

-- 1 stands for a commitment, 2 for a sum, 3 for a product, and no other number for a kind (35)
unfoldable pub kind_of : ℕ → Result Kind Refusal
kind_of number =
    cond (eqb number 1) (Ok Commitment) (cond (eqb number 2) (Ok Sum) (cond (eqb number 3) (Ok Product) (Err LineKind)))
