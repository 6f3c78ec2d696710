-- `ledger_lines::values::product_entries` meets its contract by computation.
-- Assumes nothing.
use mathlib.Core.Path.{refl}
use Rattle.lists.specs.Places.{eight_by_eight, items_at, pad8, tabulate, zeros8}
use Rattle.patterns.specs.Pattern.{digit, entry_of, made_for, pattern_entries}
use Rattle.patterns.specs.Table.{kind_of, made, pattern_of, patterns}
use Rattle.ledgers.specs.Ledger.{product_of}
use Rattle.ledger_lines.proofs.values.product_entries.Goals as goal

pub returns : goal.returns
unfolding product_of made made_for kind_of pattern_of patterns pattern_entries eight_by_eight pad8 tabulate items_at zeros8 entry_of digit
returns c = λ A E. refl
