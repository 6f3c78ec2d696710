-- The writer's answer, of why it is refused and of the lines that are made.
-- Assumes nothing.
use Prim.Native.Nat.{◌<◌}
use mathlib.Core.Path.{◌≡◌, sym, ◌∙◌}
use mathlib.Core.List.{List}
use native.Mathlib.Omega.{arith}
use Rattle.std.specs.Prelude.{Ok, Err}
use Rattle.refusals.specs.Number.{number}
use Rattle.refusals.specs.declared.Refusal.{Refusal}
use Rattle.refusals.proofs.Positive.{call_refused, number_positive}
use Rattle.rules.specs.Call.{number_of}
use Rattle.rules.specs.Rule.{lowest}
use Rattle.rules.proofs.Lowest.{lowest_earlier}
use Rattle.ledger_lines.proofs.BaseRules.{shared_later}
use Rattle.ledgers.specs.Check.{base_rules}
use Rattle.ledgers.specs.Write.{ledger_of, made_line, write_ledger, writing_ledger}
use Rattle.ledgers.proofs.Answers.{write_number, write_value}
use Rattle.ledgers.specs.declared.Base.{Base}
use Rattle.ledgers.specs.declared.Entries.{Entries}
use Rattle.ledgers.specs.declared.Line.{Line}
use Rattle.ledger_entries.specs.Parts.{entries_rules}
use Rattle.ledger_writer.specs.Outcome.{written}

module _ (base : Base) (entries : Entries) where
  -- a refused call
  answer_told : (refusal : Refusal) → number refusal ≡ number_of (writing_ledger base entries)
      → written (Err refusal) ≡ write_ledger base entries
  unfolding write_ledger writing_ledger
  answer_told refusal is = call_refused (writing_ledger base entries) refusal is

  -- what the lines share is refused
  pub shared_refused : (refusal : Refusal) → number refusal ≡ lowest (base_rules base)
      → written (Err refusal) ≡ write_ledger base entries
  unfolding number_of writing_ledger entries_rules
  shared_refused refusal is =
      let above : 0 < lowest (base_rules base) = omega (arith, is, number_positive refusal) in
      answer_told refusal (is ∙ sym (lowest_earlier (base_rules base) (entries_rules base entries) above))

  module _ (shared : 0 ≡ lowest (base_rules base)) where
    -- else the entries give the number
    entries_number : lowest (entries_rules base entries) ≡ number_of (writing_ledger base entries)
    unfolding number_of writing_ledger entries_rules
    entries_number = sym (shared_later base (entries_rules base entries) (sym shared))

    -- the entries are refused
    pub entries_refused : (refusal : Refusal) → number refusal ≡ lowest (entries_rules base entries)
        → written (Err refusal) ≡ write_ledger base entries
    entries_refused refusal is = answer_told refusal (is ∙ entries_number)

    module _ (asked : 0 ≡ lowest (entries_rules base entries)) where
      -- nothing is refused
      pub not_refused : (write_ledger base entries).refusal ≡ 0
      not_refused = write_number base entries ∙ sym entries_number ∙ sym asked

      -- the lines are written
      pub lines_written : (lines : List Line) → lines ≡ (ledger_of entries.count (made_line base entries)).lines
          → written (Ok (record { lines = lines; count = entries.count })) ≡ write_ledger base entries
      unfolding writing_ledger ledger_of
      lines_written lines is = sym (write_value base entries not_refused ∙ rw (sym is))
