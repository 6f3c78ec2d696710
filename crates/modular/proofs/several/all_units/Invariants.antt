-- `modular::all_units` meets its contract. The invariant: the product is coprime to m exactly if the values before i are group
-- elements. Assumes nothing.
use mathlib.Core.Path.{◌≡◌}
use mathlib.Core.Bool.{not}
use Prim.Native.Nat.{◌≤◌}
use lib.Dec.{eqb}
use Rattle.numbers.specs.Gcd.{gcd}
use Rattle.sigma.specs.Element.{some_non_element}
use Rattle.modular.proofs.several.all_units.Given as goal

abbrev pub invariant-loop-i : goal.invariant-loop-i
invariant-loop-i l = (l.i ≤ l.n) × (eqb (gcd l.product l.h.modulus) 1 ≡ not (some_non_element l.h l.i l.values))
