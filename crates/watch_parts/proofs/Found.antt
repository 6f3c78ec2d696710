-- A search through the first elements of a list, and the place that `position` gives.
-- Assumes nothing.
use Prim.Native.Nat.{ℕ, ◌≤◌, ◌<◌}
use mathlib.Core.Path.{◌≡◌, sym, ap, ◌∙◌}
use mathlib.Core.Bool.{Bool, true, false}
use mathlib.Core.List.{List}
use native.Mathlib.Omega.{arith}
use lib.ListN.{length, get_or, take, length-take}
use lib.Seq.{get_or-take}
use Rattle.std.specs.Prelude.{Option, Some, None, unwrap_or}
use Rattle.std.specs.List.{AllWithin, HoldsAt}
use Rattle.std.specs.Option.{MatchOption}
use Rattle.numbers.specs.Search.{find}
use Rattle.numbers.proofs.Search.{find_is, find_none}

module _ {A : Type 0} (p : A → Bool) (d : A) (xs : List A) (n : ℕ) where
  -- a place before which the test fails
  fails_before : (i : ℕ) → i ≤ n → AllWithin (λ x. p x ≡ false) (take n xs) 0 i → (j : ℕ) → j < i → p (get_or xs j d) ≡ false
  fails_before i within none j before = ap p (sym (get_or-take n xs j d (omega arith))) ∙ none j d (omega arith) before

  -- the place of the first element that passes
  found_at : {i : ℕ} → (i < length (take n xs)) × HoldsAt (λ x. p x ≡ true) (take n xs) i × AllWithin (λ x. p x ≡ false) (take n xs) 0 i
      → find (λ j. p (get_or xs j d)) 0 n ≡ i
  found_at {i} (inside, here, none) =
      let below : i < n = omega (arith, length-take n xs) in
      find_is _ 0 n i (omega arith) (omega arith) (ap p (sym (get_or-take n xs i d below)) ∙ here d)
      (λ j from before. fails_before i (omega arith) none j before)

  -- and n if none passes
  found_nowhere : n ≤ length xs → AllWithin (λ x. p x ≡ false) (take n xs) 0 (length (take n xs)) → find (λ j. p (get_or xs j d)) 0 n ≡ n
  found_nowhere within none =
      let all : length (take n xs) ≡ n = omega (arith, length-take n xs) in
      let end = (find_none (λ j. p (get_or xs j d)) 0 n).0 (λ j from before. fails_before n (omega arith) (rw all at none) j (omega arith)) in
      omega (arith, end)

  -- so the place that `position` gives, n if it gives none, is where the search ends
  pub found : n ≤ length xs → (r : Option ℕ)
      → MatchOption r (AllWithin (λ x. p x ≡ false) (take n xs) 0 (length (take n xs)))
      (λ i. (i < length (take n xs)) × HoldsAt (λ x. p x ≡ true) (take n xs) i × AllWithin (λ x. p x ≡ false) (take n xs) 0 i)
      → unwrap_or r n ≡ find (λ j. p (get_or xs j d)) 0 n
  found within None none = sym (found_nowhere within none)
  found within (Some i) first = sym (found_at first)
