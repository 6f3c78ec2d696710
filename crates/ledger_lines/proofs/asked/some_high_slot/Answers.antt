-- `ledger_lines::asked::some_high_slot` meets its contract: the three slots are searched.
-- Assumes nothing.
use Rattle.std.proofs.Common.{ℕ, arith, rules, tests}
use Rattle.std.proofs.lemmas.Iterator.{YieldsList-from_slice}
use Rattle.std.proofs.lemmas.Iterator.Search.{any_from_yields_List}
use mathlib.Core.Path.{◌∙◌}
use lib.Dec.{leb}
use Rattle.ledger_lines.proofs.Any.{any_whole}
use Rattle.ledger_lines.proofs.Few.{high_slots}
use Rattle.ledger_lines.proofs.asked.some_high_slot.Goals as goal

pub returns : goal.returns
returns c =
    let xs = c.args.slots in
    let high = λ (slot : ℕ). leb c.args.base.order slot in
    any_from_yields_List high _ _ _ c.any.ensures.ran (YieldsList-from_slice xs cc) (λ x b q k. search (rules, tests))
    ∙ any_whole high 0 xs 3 (omega arith)
    ∙ high_slots c.args.base xs
