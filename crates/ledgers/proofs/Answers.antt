-- The calls on a ledger: the number of the answer is the call's, and if it is 0 the answer is the call's value.
-- Assumes nothing.
use mathlib.Core.Path.{◌≡◌, refl, sym, ◌∙◌}
use Rattle.rules.specs.Call.{number_of}
use Rattle.rules.proofs.Call.{answer_number, answer_value}
use Rattle.ledgers.specs.Check.{check_ledger, checking_ledger}
use Rattle.ledgers.specs.Write.{write_ledger, writing_ledger}
use Rattle.ledgers.specs.declared.Base.{Base}
use Rattle.ledgers.specs.declared.Entries.{Entries}
use Rattle.ledgers.specs.declared.Ledger.{Ledger}

module _ (base : Base) (ledger : Ledger) where
  -- checking
  pub check_number : (check_ledger base ledger).refusal ≡ number_of (checking_ledger base ledger)
  unfolding check_ledger checking_ledger
  check_number = answer_number (checking_ledger base ledger) (λ told. told.refusal) refl (λ n. refl)

  pub check_value : (check_ledger base ledger).refusal ≡ 0 → check_ledger base ledger ≡ (checking_ledger base ledger).value
  unfolding check_ledger
  check_value none = answer_value (checking_ledger base ledger) (sym check_number ∙ none)

module _ (base : Base) (entries : Entries) where
  -- writing
  pub write_number : (write_ledger base entries).refusal ≡ number_of (writing_ledger base entries)
  unfolding write_ledger writing_ledger
  write_number = answer_number (writing_ledger base entries) (λ made. made.refusal) refl (λ n. refl)

  pub write_value : (write_ledger base entries).refusal ≡ 0 → write_ledger base entries ≡ (writing_ledger base entries).value
  unfolding write_ledger
  write_value none = answer_value (writing_ledger base entries) (sym write_number ∙ none)
