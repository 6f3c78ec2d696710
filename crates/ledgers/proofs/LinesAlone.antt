-- Checking a ledger answers the same if the numbers that are read are the same.
-- Assumes nothing.
use Prim.Native.Nat.{ℕ, ◌<◌}
use mathlib.Core.Path.{◌≡◌, sym, subst, ◌∙◌}
use Rattle.rules.proofs.Determined.{either}
use Rattle.ledgers.specs.Check.{check_ledger}
use Rattle.ledgers.specs.Used.{SameLedger}
use Rattle.ledgers.specs.declared.Base.{Base}
use Rattle.ledgers.specs.declared.Ledger.{Ledger}
use Rattle.ledgers.proofs.Alone.{commits_over, rules_same, tells_over}
use Rattle.ledgers.proofs.Answers.{check_number}
use Rattle.ledgers.proofs.Checking.{commits, lines, tells}
use Rattle.ledgers.proofs.LedgerRefusals.{ledger_refusals}
use Rattle.ledgers.proofs.Only.{tells_only}

module _ (base : Base) {ledger ledger' : Ledger} (s : SameLedger ledger ledger') where
  -- the number is the same
  number : (check_ledger base ledger).refusal ≡ (check_ledger base ledger').refusal
  number = check_number base ledger ∙ rules_same base s ∙ sym (check_number base ledger')

  -- so checking answers the same
  pub lines_alone : check_ledger base ledger ≡ check_ledger base ledger'
  lines_alone =
      either (check_ledger base ledger).refusal (λ none.
      let none' = sym number ∙ none in
      tells_only base ledger' (lines base ledger' none') _ _ (commits_over base s (lines base ledger none) _ (commits base ledger none))
      (commits base ledger' none') _ _ (tells_over base s _ _ (tells base ledger none)) (tells base ledger' none'))
      (λ some.
      let (accepted, line) = (ledger_refusals.checking base ledger).left some in
      let (accepted', line') = (ledger_refusals.checking base ledger').left (subst (λ (n : ℕ). 0 < n) number some) in
      λ j. record { accepted = (accepted ∙ sym accepted') j; line = (line ∙ sym line') j; refusal = number j })
