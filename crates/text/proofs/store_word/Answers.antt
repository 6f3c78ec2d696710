-- `text::store_word` meets its contract.
-- Assumes nothing.
use mathlib.Core.Path.{refl}
use Rattle.text.proofs.Laws.{word_stored}
use Rattle.text.proofs.store_word.Goals as goal

pub returns : goal.returns
returns c =
    record { stored = word_stored _ _ _ c.args.at c.requires.room c.copy_from_slice.ensures.after; behind = refl }
