-- A row of a rejected round piece by piece, and how large the values of an array are.
-- Assumes nothing.
use Prim.Native.Nat.{ℕ, zero, suc, ◌<◌}
use mathlib.Core.Path.{◌≡◌}
use mathlib.Core.List.{List, [], ◌∷◌, ◌++◌, append_assoc}
use native.Mathlib.Omega.{arith}
use lib.ListN.{get_or}
use mir.Syntax.{w32}
use mir.Val.{Val}
use denote.Array.{Array, each}
use denote.Laws.{Is}
use denote.Plain.{UInt}
use denote.Shadow.{shadow}
use Rattle.encoding.specs.Placed.{Fitted}
use Rattle.encoding.specs.Text.{ascii, decimal}
use Rattle.encoding.proofs.Fitted.{fitted_as, fitted_then}

-- words put together in two ways
row_words : (a b c d : List ℕ) → a ++ b ++ a ++ c ++ a ++ d ≡ [] ++ a ++ b ++ ([] ++ a ++ c) ++ ([] ++ a ++ d)
row_words a b c d = simp append_assoc

-- a row and its two sides, one after the other
pub sides_fitted : (row left right : ℕ) {l m p q : List ℕ} {at x y z : ℕ}
    → Fitted l at ([] ++ ascii " " ++ decimal row) m x → Fitted m x ([] ++ ascii " " ++ decimal left) p y
    → Fitted p y ([] ++ ascii " " ++ decimal right) q z
    → Fitted l at (ascii " " ++ decimal row ++ ascii " " ++ decimal left ++ ascii " " ++ decimal right) q z
sides_fitted row left right first second third =
    fitted_as (fitted_then (fitted_then first second) third) (row_words (ascii " ") (decimal row) (decimal left) (decimal right))

-- each value of an array of numbers of 32 bits has 32 bits
each_below : (xs : List ℕ) (us : List Val) → shadow (each ℕ (UInt w32).own_val xs us) → (i : ℕ) → get_or xs i 0 < 4294967296
each_below [] us held i = omega arith
each_below (x ∷ xs) [] held i = absurd held
each_below (x ∷ xs) (u ∷ us) held zero = held.0.1
each_below (x ∷ xs) (u ∷ us) held (suc i) = each_below xs us held.1 i

pub array_below : (n : ℕ) (xs : List ℕ) (vs : List Val) → Is (Array (UInt w32) n) xs vs → (i : ℕ) → get_or xs i 0 < 4294967296
array_below n xs vs held = each_below xs held.0 held.1.1
