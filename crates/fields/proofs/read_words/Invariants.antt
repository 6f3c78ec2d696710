-- `fields::read_words` meets its contract. The invariant: the first i places hold the first i words, and those beyond hold 0.
-- Assumes nothing.
use Prim.Native.Nat.{◌+◌, ◌*◌}
use Rattle.lists.proofs.Filling.{Filled}
use Rattle.encoding.specs.Bytes.{number_at}
use Rattle.fields.proofs.read_words.Given as goal

abbrev pub invariant-loop-i : goal.invariant-loop-i
invariant-loop-i l = Filled l.initial.words l.n (λ j. number_at 4 l.s (l.at + 4 * j)) l.words l.i
