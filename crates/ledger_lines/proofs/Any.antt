-- `any` of the library's lists, over the first items of a list, with or without their places, as a bounded search.
-- Assumes nothing.
use Prim.Native.Nat.{ℕ, zero, suc, ◌<◌, ◌≤◌}
use mathlib.Core.Path.{◌≡◌, sym, ap, ap₂, ◌∙◌}
use mathlib.Core.Bool.{Bool, ◌||◌}
use mathlib.Core.List.{List}
use native.Mathlib.Numerals.{add-one}
use native.Mathlib.Omega.{arith}
use lib.ListN.{get_or, length, take}
use Rattle.std.proofs.Common.{zero-add}
use Rattle.std.specs.List.{enumerate_from, list_any}
use Rattle.std.proofs.lemmas.List.{get_or-take, length-take-le, take_all}
use Rattle.std.proofs.lemmas.List.Folds.{list_any_more}
use Rattle.std.proofs.lemmas.List.FromFn.{get_or-enumerate_from, length-enumerate_from}
use Rattle.numbers.specs.Search.{any}
use Rattle.numbers.proofs.Search.{any_agree, any_start, any_suc}

module _ {A : Type 0} (test : A → Bool) (d : A) (xs : List A) where
  -- over the first n items
  pub any_first : (n : ℕ) → n ≤ length xs → list_any test (take n xs) ≡ any n (λ i. test (get_or xs i d))
  any_first zero few = sym (any_start _)
  any_first (suc n) few =
      ap (λ (k : ℕ). list_any test (take k xs)) (sym (add-one n)) ∙ list_any_more test xs n d (omega arith)
      ∙ ap (λ (b : Bool). b || test (get_or xs n d)) (any_first n (omega arith)) ∙ sym (any_suc n _)

  -- over all n
  pub any_whole : (n : ℕ) → length xs ≡ n → list_any test xs ≡ any n (λ i. test (get_or xs i d))
  any_whole n long = ap (list_any test) (sym (take_all n xs (omega (arith, long)))) ∙ any_first n (omega (arith, long))

-- over the first n items with their places
pub any_placed : {A : Type 0} (test : ℕ → A → Bool) (d : A) (xs : List A) (n : ℕ) → n ≤ length xs
    → list_any (λ (p : ℕ × A). test p.0 p.1) (enumerate_from 0 (take n xs)) ≡ any n (λ i. test i (get_or xs i d))
any_placed {A} test d xs n few =
    any_whole (λ (p : ℕ × A). test p.0 p.1) (0, d) (enumerate_from 0 (take n xs)) n
    (length-enumerate_from 0 (take n xs) ∙ length-take-le n xs few)
    ∙ any_agree n _ _ (λ i inside.
    let within : i < length (take n xs) = omega (arith, length-take-le n xs few) in
    ap (λ (p : ℕ × A). test p.0 p.1) (get_or-enumerate_from 0 (take n xs) i (0, d) within)
    ∙ ap₂ test (zero-add i) (get_or-take n xs i d inside))
