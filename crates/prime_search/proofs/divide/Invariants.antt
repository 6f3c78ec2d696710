-- `prime_search::divide` meets its contract. The invariant: nothing up to p divides order, and the numbers that are left
-- after p are the word's last ones. Assumes nothing.
use Prim.Native.Nat.{◌+◌, ◌-◌, ◌*◌, ◌≤◌}
use Rattle.prime_words.specs.Words.{last}
use Rattle.prime_search.proofs.Passing.{Walk}
use Rattle.prime_search.proofs.divide.Given as goal

abbrev pub invariant-loop : goal.invariant-loop
invariant-loop l = (l.p + 126 * (5 - l.counter) ≤ 66165) × Walk l.order (5 - l.counter) l.p l.gaps (last 5 l.a l.e)
