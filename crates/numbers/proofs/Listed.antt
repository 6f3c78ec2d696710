-- A search through a list in the library's words is a bounded search.
-- Assumes nothing.
use Prim.Native.Nat.{ℕ, zero, suc, ◌+◌, ◌≤◌}
use mathlib.Core.Path.{◌≡◌, sym, ap, ◌∙◌}
use mathlib.Core.Bool.{Bool, ◌||◌}
use mathlib.Core.List.{List}
use native.Mathlib.Omega.{arith}
use lib.ListN.{length, get_or, take}
use lib.Seq.{take_all}
use Rattle.std.specs.List.{list_any}
use Rattle.std.proofs.lemmas.List.Folds.{list_any_more}
use Rattle.numbers.specs.Search.{any}
use Rattle.numbers.proofs.Search.{any_start, any_suc}

module _ (test : ℕ → Bool) (xs : List ℕ) where
  -- among the first n items of a list
  any_taken : (n : ℕ) → n ≤ length xs → list_any test (take n xs) ≡ any n (λ i. test (get_or xs i 0))
  any_taken zero few = sym (any_start _)
  any_taken (suc n) few =
      ap (λ (k : ℕ). list_any test (take k xs)) {x = suc n} {y = n + 1} (omega arith) ∙ list_any_more test xs n 0 (omega arith)
      ∙ ap (λ (b : Bool). b || test (get_or xs n 0)) (any_taken n (omega arith)) ∙ sym (any_suc n _)

  -- among all n items of a list
  pub any_listed : (n : ℕ) → length xs ≡ n → list_any test xs ≡ any n (λ i. test (get_or xs i 0))
  any_listed n long =
      ap (list_any test) (sym (take_all n xs (omega arith))) ∙ any_taken n (omega arith)
