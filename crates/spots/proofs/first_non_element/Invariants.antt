-- `spots::first_non_element` meets its contract. The invariant: what is left of the search gives what the whole
-- search gives. Assumes nothing.
use Prim.Native.Nat.{◌+◌, ◌-◌, ◌*◌}
use mathlib.Core.Path.{◌≡◌}
use mathlib.Core.Bool.{not}
use Rattle.numbers.specs.Search.{find}
use Rattle.encoding.specs.Bytes.{number_at}
use Rattle.sigma.specs.Element.{is_element}
use Rattle.reasons.specs.Reason.{first_non_element}
use Rattle.spots.proofs.first_non_element.Given as goal

abbrev pub invariant-loop-i : goal.invariant-loop-i
invariant-loop-i l =
    find (λ j. not (is_element l.h (number_at 4 l.bytes (l.start + 4 * j)))) l.i (l.n - l.i) ≡ first_non_element l.h l.bytes l.start l.n
