-- Lists whose numbers are all below a bound: first values, places that are read, and joined rows.
-- Assumes nothing.
use Prim.Native.Nat.{ℕ, zero, suc, ◌<◌}
use mathlib.Core.List.{List, [], ◌∷◌, flatten}
use native.Mathlib.Decide.{dec_lt}
use native.Mathlib.Omega.{arith}
use lib.ListN.{get_or, get_or-eq_default}
use Rattle.lists.specs.Places.{tabulate, places}
use Rattle.lists.proofs.Places.{length_tabulate, get_d_tabulate}
use Rattle.encoding.specs.Bytes.{AllBelow}
use Rattle.encoding.proofs.Bytes.{below_append}

-- a function's first values
pub below_tabulate : (bound n : ℕ) (f : ℕ → ℕ) → 0 < bound → ((j : ℕ) → j < n → f j < bound) → AllBelow bound (tabulate n f)
below_tabulate bound n f some h j = elim (dec_lt j n) [
  | yes b ↦ rw (get_d_tabulate n f j 0 b) (h j b)
  | no b ↦ rw (get_or-eq_default (tabulate n f) 0 {n = j} (omega (arith, length_tabulate n f))) some
]

-- the places of an array that are read
pub below_places : (bound n : ℕ) (xs : List ℕ) → 0 < bound → ((j : ℕ) → j < n → get_or xs j 0 < bound) → AllBelow bound (places n xs)
unfolding places
below_places bound n xs some h = below_tabulate bound n (λ j. get_or xs j 0) some h

-- joined rows
pub below_flatten : (bound : ℕ) (rows : List (List ℕ)) → ((r : ℕ) → AllBelow bound (get_or rows r [])) → AllBelow bound (flatten rows)
unfolding flatten
below_flatten bound [] h j = h zero zero
below_flatten bound (row ∷ rows) h j =
    below_append bound row (flatten rows) (h zero) (below_flatten bound rows (λ r. h (suc r))) j
