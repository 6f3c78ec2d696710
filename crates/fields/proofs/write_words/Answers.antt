use mathlib.Core.Path.{refl}
use native.Mathlib.Omega.{arith}
use Rattle.lists.specs.Places.{items_at, tabulate, places}
use Rattle.encoding.specs.Bytes.{bytes_of_each}
use Rattle.fields.proofs.Laws.{word_stored}
use Rattle.fields.proofs.write_words.Goals as goal

pub loop-k-init : goal.loop-k-init
unfolding places tabulate items_at bytes_of_each
loop-k-init c = (refl, omega arith, refl)

pub loop-k-preserved : goal.loop-k-preserved
loop-k-preserved c =
    (rw (c.write_u32.ensures.stored, c.loop-k.invariant.0) (word_stored 4 _ _ _ _), omega arith, omega arith)
