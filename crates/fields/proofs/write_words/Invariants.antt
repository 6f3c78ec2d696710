-- `fields::write_words` meets its contract. The invariant: the bytes of the first k words are stored, and no other byte differs.
-- Assumes nothing.
use Prim.Native.Nat.{◌≤◌}
use mathlib.Core.Path.{◌≡◌}
use lib.ListN.{length}
use lib.Seq.{sets}
use Rattle.lists.specs.Places.{places}
use Rattle.encoding.specs.Bytes.{bytes_of_each}
use Rattle.fields.proofs.write_words.Given as goal

abbrev pub invariant-loop-k : goal.invariant-loop-k
invariant-loop-k l = (l.s ≡ sets l.initial.s l.at (bytes_of_each 4 (places l.k l.words))) × (l.k ≤ l.n) × (length l.s ≡ length l.initial.s)
