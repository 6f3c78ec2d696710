-- Both sheets of a pair load.
-- Assumes nothing.
use Prim.Native.Nat.{ℕ}
use mathlib.Core.Path.{◌≡◌}
use mathlib.Core.List.{List}
use Rattle.formats.specs.Load.{load, load_refusal}
use Rattle.disjunctions.specs.Ours.{Pair}

module _ {s s' : List ℕ} (pair : Pair s s') where
  pub first_loads : load_refusal s ≡ 0
  unfolding load
  first_loads = pair.first_loads

  pub second_loads : load_refusal s' ≡ 0
  unfolding load
  second_loads = pair.second_loads
