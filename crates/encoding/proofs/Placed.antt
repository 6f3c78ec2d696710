-- Bytes placed in a slice one behind the other, and numbers of so many bytes placed behind others.
-- Assumes nothing.
use Prim.Native.Nat.{ℕ, ◌+◌, ◌*◌}
use mathlib.Core.Path.{◌≡◌, refl}
use mathlib.Core.List.{List, ◌++◌}
use native.Mathlib.Omega.{arith}
use lib.ListN.{length, length-append}
use lib.Seq.{sets}
use Rattle.encoding.specs.Bytes.{bytes_of, bytes_of_each}
use Rattle.encoding.specs.Placed.{Placed}
use Rattle.encoding.proofs.Bytes.{length_bytes_of, length_bytes_of_each}
use Rattle.encoding.proofs.Replaced.{sets_sets}

-- stored bytes are placed, and end behind their length
pub placed_stored : (l : List ℕ) {m : List ℕ} (at : ℕ) (bytes : List ℕ) → m ≡ sets l at bytes → Placed l at bytes m (at + length bytes)
placed_stored l at bytes e = record { stored = e; behind = refl }

-- bytes placed straight behind others are placed as one with them
pub placed_behind : {l : List ℕ} {at : ℕ} {xs m : List ℕ} {i : ℕ} {ys n : List ℕ} {j : ℕ}
    → Placed l at xs m i → Placed m i ys n j → Placed l at (xs ++ ys) n j
placed_behind {l} {at} {xs} {m} {i} {ys} first second = record {
  stored = rw (second.stored, first.stored, first.behind) (sets_sets l at xs ys);
  behind = omega (arith, first.behind, second.behind, length-append xs ys);
}

module _ {l xs m n : List ℕ} {at next : ℕ} (placed : Placed l at xs m next) where
  -- a number of w bytes straight behind
  pub placed_number : (w v : ℕ) → n ≡ sets m next (bytes_of w v) → Placed l at (xs ++ bytes_of w v) n (next + w)
  placed_number w v e =
      placed_behind placed (record { stored = e; behind = omega (arith, length_bytes_of w v) })

  -- k numbers of four bytes straight behind
  pub placed_words : (k : ℕ) (vs : List ℕ) → n ≡ sets m next (bytes_of_each 4 vs) → length vs ≡ k
      → Placed l at (xs ++ bytes_of_each 4 vs) n (next + 4 * k)
  placed_words k vs e count =
      placed_behind placed (record { stored = e; behind = omega (arith, length_bytes_of_each 4 vs, count) })
