-- The search for the first place at which two sides differ.
-- Assumes nothing.
use mathlib.Core.Path.{◌≡◌, sym, ap, ◌∙◌}
use mathlib.Core.Bool.{not}
use mathlib.Core.Logic.{◌≢◌}
use mathlib.Core.List.{List}
use Prim.Native.Nat.{ℕ, ◌+◌, ◌-◌, ◌≤◌, ◌<◌}
use native.Mathlib.Omega.{arith}
use lib.Dec.{eqb}
use lib.ListN.{get_or}
use borrow.Author.Tests.{eq-eqb, ne_eqb}
use Rattle.numbers.specs.Search.{find}
use Rattle.numbers.proofs.Search.{find_to_start, find_to_end, find_to_here, find_to_on}
use Rattle.sigma.specs.Comparison.{first_difference}

module _ (n : ℕ) (xs ys : List ℕ) where
  -- the search that has come to i gives what the whole search gives
  abbrev pub Agreed : ℕ → Type 0
  Agreed i = (i ≤ n) × (find (λ j. not (eqb (get_or xs j 0) (get_or ys j 0))) i (n - i) ≡ first_difference n xs ys)

  -- before the first place
  pub agreed_none : Agreed 0
  unfolding first_difference
  agreed_none = (omega arith, find_to_start _ n)

  -- a place at which they agree leaves the search to the next one
  pub agreed_on : (i : ℕ) → i < n → get_or xs i 0 ≡ get_or ys i 0 → Agreed i → Agreed (i + 1)
  agreed_on i below same (within, kept) = (omega arith, find_to_on _ i n below (ap not (eq-eqb _ _ same)) ∙ kept)

  -- a place at which they differ ends it
  pub differ_here : (i : ℕ) → i < n → get_or xs i 0 ≢ get_or ys i 0 → Agreed i → i ≡ first_difference n xs ys
  differ_here i below other (within, kept) = sym (find_to_here _ i n below (ap not (ne_eqb _ _ other))) ∙ kept

  -- and so does the last place
  pub differ_none : (i : ℕ) → n ≤ i → Agreed i → i ≡ first_difference n xs ys
  differ_none i past (within, kept) = sym (find_to_end _ i n past) ∙ kept

  -- which is n
  pub differ_nowhere : {i : ℕ} → n ≤ i → Agreed i → n ≡ first_difference n xs ys
  differ_nowhere {i} past (within, kept) =
      let all : n ≡ i = omega arith in all ∙ sym (find_to_end _ i n past) ∙ kept
