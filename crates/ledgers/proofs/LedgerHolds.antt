-- What 02's fourteenth card asks holds of the definitions.
-- Assumes nothing.
use mathlib.Core.Path.{sym, subst}
use Rattle.formats.specs.Ours.{file_calls}
use Rattle.patterns.specs.Ours.{maker_calls}
use Rattle.runs.specs.Ours.{run_calls}
use Rattle.ledgers.specs.LedgerHolds.{LedgerAnswers, LedgerHolds, MadeOf}
use Rattle.ledgers.specs.Ours.{ledger_calls}
use Rattle.ledgers.proofs.LinesAlone.{lines_alone}
use Rattle.ledgers.proofs.Checking.{commits, tells}
use Rattle.ledgers.proofs.EntriesAlone.{entries_alone}
use Rattle.ledgers.proofs.MadeLedger.{made_accepted, made_honest, made_opens}
use Rattle.ledgers.proofs.ProductLines.{product_lines}
use Rattle.ledgers.proofs.Writing.{ledger_is, made_of, values}

-- what the calls answer in numbers
pub ledger_answers : LedgerAnswers ledger_calls
ledger_answers = record {
  checked = λ base ledger none. (_, commits base ledger none, tells base ledger none);
  written = λ base entries none. (
    _,
    _,
    values base entries none,
    subst (MadeOf base entries _ _) (sym (ledger_is base entries none)) (made_of base entries none),
  );
}

-- and that the rounds are 01's
pub ledger_holds : LedgerHolds file_calls run_calls maker_calls ledger_calls
ledger_holds = record {
  answers = ledger_answers;
  product_lines = λ base ledger small short none C c. product_lines base ledger small short none C c;
  lines_alone = λ base ledger ledger' s. lines_alone base s;
  entries_alone = λ base entries entries' s. entries_alone base s;
  made_opens = λ base entries none. made_opens base entries none;
  made_honest = λ base entries small short none. made_honest base entries none small short;
  made_accepted = λ base entries none. made_accepted base entries none;
}
