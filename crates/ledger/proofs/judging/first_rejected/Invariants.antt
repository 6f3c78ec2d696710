-- `ledger::judging::first_rejected` meets its contract. The invariant: what is left of the search gives what the whole search gives, and
-- the array keeps the commitments of the lines before i. Assumes nothing.
use Prim.Native.Nat.{◌-◌}
use mathlib.Core.Path.{◌≡◌}
use Rattle.numbers.specs.Search.{find}
use Rattle.ledgers.specs.Check.{rejects_line}
use Rattle.ledgers.specs.Ledger.{commitments}
use Rattle.ledgers.specs.Lines.{line_at}
use Rattle.ledger.proofs.Products.{Keeps}
use Rattle.ledger.proofs.judging.first_rejected.Given as goal

abbrev pub invariant-loop-i : goal.invariant-loop-i
invariant-loop-i l =
    (find (λ j. rejects_line l.base (commitments l.base.modulus l.fn.ledger j) (line_at l.fn.ledger j)) l.i (l.fn.ledger.count - l.i)
    ≡ find (λ j. rejects_line l.base (commitments l.base.modulus l.fn.ledger j) (line_at l.fn.ledger j)) 0 l.fn.ledger.count)
    × Keeps l.above (commitments l.base.modulus l.fn.ledger l.i)
