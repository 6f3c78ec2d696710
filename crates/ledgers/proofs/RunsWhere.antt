-- Each call on a ledger is not refused exactly when LedgerRuns says so.
-- Assumes nothing.
use Prim.Native.Nat.{ℕ, ◌<◌, ◌≤◌}
use mathlib.Core.Path.{◌≡◌}
use mathlib.Core.Logic.{◌↔◌}
use Rattle.rules.proofs.Determined.{none_hold, none_zero}
use Rattle.ledgers.specs.Check.{check_ledger}
use Rattle.ledgers.specs.Lines.{entry_at, line_at}
use Rattle.ledgers.specs.Ours.{ledger_calls}
use Rattle.ledgers.specs.Refusals.{check_conditions, write_conditions}
use Rattle.ledgers.specs.RunsWhere.{LedgerRuns, RightBase, RightEntry, RightLine}
use Rattle.ledgers.specs.Write.{write_ledger}
use Rattle.ledgers.specs.declared.Base.{Base}
use Rattle.ledgers.specs.declared.Entries.{Entries}
use Rattle.ledgers.specs.declared.Ledger.{Ledger}
use Rattle.ledgers.proofs.LedgerRefusals.{ledger_refusals}
use Rattle.ledgers.proofs.AllRight.{entries_right, ledger_right}

-- checking
pub checks_where : (base : Base) (ledger : Ledger) → ((check_ledger base ledger).refusal ≡ 0)
    ↔ (RightBase base × (ledger.count ≤ 64) × ((i : ℕ) → i < ledger.count → RightLine base i (line_at ledger i)))
checks_where base ledger =
    let refuses = ledger_refusals.checking base ledger in (
      λ e. (ledger_right base ledger).0 (none_hold refuses refuses e),
      λ right. none_zero (check_conditions base ledger) _ ((ledger_right base ledger).1 right) refuses.given,
    )

-- writing
pub writes_where : (base : Base) (entries : Entries) → ((write_ledger base entries).refusal ≡ 0)
    ↔ (RightBase base × (entries.count ≤ 64) × ((i : ℕ) → i < entries.count → RightEntry base i (entry_at entries i)))
writes_where base entries =
    let refuses = ledger_refusals.writing base entries in (
      λ e. (entries_right base entries).0 (none_hold refuses refuses e),
      λ right. none_zero (write_conditions base entries) _ ((entries_right base entries).1 right) refuses.given,
    )

pub ledger_runs : LedgerRuns ledger_calls
ledger_runs = record { checks = checks_where; writes = writes_where }
