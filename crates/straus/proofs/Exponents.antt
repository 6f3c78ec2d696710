-- A number that none of several exponents is above.
-- Assumes nothing.
use mathlib.Core.Path.{◌≡◌}
use mathlib.Core.List.{List}
use Prim.Native.Nat.{ℕ, ◌+◌, ◌≤◌}
use native.Mathlib.Decide.{dec_lt}
use native.Mathlib.Omega.{arith}
use lib.ListN.{get_or}
use Rattle.straus.specs.MultiPowers.{AtMost}

-- none of no values
pub at_most_start : (values : List ℕ) (most : ℕ) → AtMost most 0 values
at_most_start values most = record { each = λ i inside. absurd (omega arith) }

-- one value more
pub at_most_more : {most n : ℕ} {values : List ℕ} {next : ℕ} → AtMost most n values → most ≤ next → get_or values n 0 ≤ next
    → AtMost next (n + 1) values
at_most_more {most} {n} passed larger here = record {
  each = λ i inside. elim (dec_lt i n) [
    | yes earlier ↦ omega (arith, passed.each i earlier)
    | no later ↦ let last : i ≡ n = omega arith in rw last here
  ];
}
