-- The calls on a ledger are refused exactly by their conditions, and a refused call answers zeros beside the number.
-- Assumes nothing.
use mathlib.Core.Path.{◌≡◌, refl}
use Rattle.lists.specs.Places.{items_at, tabulate}
use Rattle.rules.specs.Order.{is_sublist, refusal_order}
use Rattle.rules.specs.Refuses.{condition_numbers}
use Rattle.rules.proofs.Refuses.{refuses_call}
use Rattle.ledgers.specs.Check.{check_ledger, checking_ledger}
use Rattle.ledgers.specs.LedgerHolds.{LedgerRefusals}
use Rattle.ledgers.specs.Ours.{ledger_calls}
use Rattle.ledgers.specs.Write.{ledger_of, write_ledger, writing_ledger, zero_line}
use Rattle.ledgers.proofs.Tests.{check_tests, write_tests}

pub ledger_refusals : LedgerRefusals ledger_calls
unfolding condition_numbers is_sublist refusal_order check_ledger checking_ledger write_ledger writing_ledger ledger_of zero_line tabulate items_at
ledger_refusals = record {
  checking = λ base ledger.
      refuses_call _ _ refl refl (checking_ledger base ledger) (λ told. told.refusal) refl (λ n. refl)
      (λ told. (told.accepted ≡ 0) × (told.line ≡ 0)) (check_tests base ledger) (λ n. (refl, refl));
  writing = λ base entries.
      refuses_call _ _ refl refl (writing_ledger base entries) (λ made. made.refusal) refl (λ n. refl)
      (λ made. made.ledger ≡ ledger_of 0 (λ i. zero_line)) (write_tests base entries) (λ n. refl);
  inserted = refl;
}
