-- The checker's answer, of why it is refused and of the first line that is rejected.
-- Assumes nothing.
use Prim.Native.Nat.{ℕ, ◌<◌}
use mathlib.Core.Path.{◌≡◌, sym, ◌∙◌}
use native.Mathlib.Omega.{arith}
use borrow.Author.Tests.{le-ltb, lt-ltb}
use Rattle.std.specs.Prelude.{Option, Some, None, Ok, Err, MatchOption}
use Rattle.refusals.specs.Number.{number}
use Rattle.refusals.specs.declared.Refusal.{Refusal}
use Rattle.refusals.proofs.Positive.{call_refused, number_positive}
use Rattle.rules.specs.Call.{number_of}
use Rattle.rules.specs.Rule.{lowest}
use Rattle.rules.proofs.Lowest.{lowest_earlier}
use Rattle.ledger_lines.proofs.BaseRules.{shared_later}
use Rattle.ledgers.specs.Check.{base_rules, check_ledger, checking_ledger, first_rejected}
use Rattle.ledgers.proofs.Answers.{check_number, check_value}
use Rattle.ledgers.specs.declared.Base.{Base}
use Rattle.ledgers.specs.declared.Ledger.{Ledger}
use Rattle.ledger.specs.Outcome.{checked}
use Rattle.ledger.specs.Parts.{lines_rules}

module _ (base : Base) (ledger : Ledger) where
  -- a refused call
  answer_told : (refusal : Refusal) → number refusal ≡ number_of (checking_ledger base ledger)
      → checked (Err refusal) ≡ check_ledger base ledger
  unfolding check_ledger checking_ledger
  answer_told refusal is = call_refused (checking_ledger base ledger) refusal is

  -- what the lines share is refused
  pub shared_refused : (refusal : Refusal) → number refusal ≡ lowest (base_rules base)
      → checked (Err refusal) ≡ check_ledger base ledger
  unfolding number_of checking_ledger lines_rules
  shared_refused refusal is =
      let above : 0 < lowest (base_rules base) = omega (arith, is, number_positive refusal) in
      answer_told refusal (is ∙ sym (lowest_earlier (base_rules base) (lines_rules base ledger) above))

  module _ (shared : 0 ≡ lowest (base_rules base)) where
    -- else the lines give the number
    lines_number : lowest (lines_rules base ledger) ≡ number_of (checking_ledger base ledger)
    unfolding number_of checking_ledger lines_rules
    lines_number = sym (shared_later base (lines_rules base ledger) (sym shared))

    -- the lines are refused
    pub lines_refused : (refusal : Refusal) → number refusal ≡ lowest (lines_rules base ledger)
        → checked (Err refusal) ≡ check_ledger base ledger
    lines_refused refusal is = answer_told refusal (is ∙ lines_number)

    module _ (asked : 0 ≡ lowest (lines_rules base ledger)) where
      -- nothing is refused
      pub not_refused : (check_ledger base ledger).refusal ≡ 0
      not_refused = check_number base ledger ∙ sym lines_number ∙ sym asked

      -- and the call answers the first line that is rejected, if there is one
      pub line_told : (line : Option ℕ)
          → MatchOption line (first_rejected base ledger ≡ ledger.count)
          (λ i. (i ≡ first_rejected base ledger) × (i < ledger.count))
          → checked (Ok line) ≡ check_ledger base ledger
      unfolding checking_ledger
      line_told None past =
          sym (check_value base ledger not_refused ∙ rw (past, le-ltb ledger.count ledger.count (omega arith)))
      line_told (Some i) (is, inside) =
          sym (check_value base ledger not_refused ∙ rw (sym is, lt-ltb i ledger.count inside))
