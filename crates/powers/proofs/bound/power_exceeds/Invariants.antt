-- `powers::bound::power_exceeds` meets its contract. The invariant: the power so far is that of the turns done.
-- Assumes nothing.
use Prim.Native.Nat.{◌^◌}
use mathlib.Core.Path.{◌≡◌}
use Rattle.powers.proofs.bound.power_exceeds.Given as goal

abbrev pub invariant-loop : goal.invariant-loop
invariant-loop l = l.power ≡ l.base ^ l.counter
