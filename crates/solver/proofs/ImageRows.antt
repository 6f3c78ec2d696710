-- The rows of an image in the table beside the expected ones, compared one by one.
-- Assumes nothing.
use Prim.Native.Nat.{ℕ, ◌+◌, ◌<◌}
use mathlib.Core.Path.{◌≡◌, sym, ap}
use mathlib.Core.Bool.{Bool, true, false, not}
use mathlib.Core.List.{List}
use native.Mathlib.Omega.{arith}
use borrow.Author.Tests.{eq-eqb, ne_eqb}
use lib.ListN.{get_or, length}
use Rattle.std.proofs.Common.{zero-add}
use Rattle.std.specs.Bool.{MatchBool}
use Rattle.std.specs.List.{AllWithin, HoldsAt, range_with_len}
use Rattle.std.proofs.lemmas.List.FromFn.{get_or-range_with_len, length-range_with_len}
use Rattle.numbers.proofs.Search.{any_false, any_here}
use Rattle.solver.specs.Match.{rows_agree}

module _ (table expected : List ℕ) (start rows : ℕ) where
  -- row i is the expected one
  abbrev pub SameRow : ℕ → Type 0
  SameRow i = get_or table (start + i) 0 ≡ get_or expected i 0

  -- what was answered of the rows one by one, by `true` where all are the expected ones, is that they agree
  pub rows_told : (told : Bool)
      → MatchBool told (AllWithin SameRow (range_with_len 0 rows) 0 (length (range_with_len 0 rows)))
      ((i : ℕ) × (i < length (range_with_len 0 rows)) × HoldsAt (λ i. ¬ SameRow i) (range_with_len 0 rows) i)
      → told ≡ rows_agree table start rows expected
  unfolding rows_agree
  rows_told true all =
      sym (ap not ((any_false rows _).1 (λ i inside.
      ap not (eq-eqb _ _ (rw (get_or-range_with_len 0 rows i 0 inside, zero-add) at (all i 0 (omega arith) (rw length-range_with_len inside)))))))
  rows_told false (i, within, other) =
      let inside : i < rows = rw length-range_with_len at within in
      ap not (any_here _ i rows inside (ap not (ne_eqb _ _ (rw (get_or-range_with_len 0 rows i 0 inside, zero-add) at (other 0)))))
