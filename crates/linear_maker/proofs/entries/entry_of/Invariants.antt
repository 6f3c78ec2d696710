-- `linear_maker::entries::entry_of` meets its contract. The invariant: the number so far is the product over the generators before g. Assumes nothing.
use Prim.Native.Nat.{◌≤◌}
use mathlib.Core.Path.{◌≡◌}
use lib.ListN.{length}
use mathlib.Core.List.{[]}
use Rattle.linear_maker.specs.Plan.{plan_of}
use Rattle.linear_maker.proofs.EntryProduct.{entry_so_far}
use Rattle.linear_maker.proofs.entries.entry_of.Given as goal

abbrev pub invariant-loop-g : goal.invariant-loop-g
invariant-loop-g l =
    (l.entry ≡ entry_so_far (plan_of l.h l.generators l.coefficients []) l.i l.j l.g) × (l.g ≤ length l.generators)
