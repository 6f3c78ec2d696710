-- The group elements of kind 2, tested by their product: what each turn keeps, and what the answer says of the search.
-- Assumes nothing.
use mathlib.Core.Path.{◌≡◌, refl, sym, ◌∙◌, ap, ap₂}
use mathlib.Core.Bool.{Bool, true, false, not, ◌&&◌, ◌||◌}
use mathlib.Core.List.{List}
use mathlib.Core.Logic.{◌≢◌}
use Prim.Native.Nat.{ℕ, ◌+◌, ◌*◌, ◌%◌, ◌≤◌, ◌<◌}
use native.Mathlib.Nat.{eq-one_of_dvd-one}
use native.Mathlib.Numerals.{add-one}
use native.Mathlib.Omega.{arith}
use lib.Dec.{eqb}
use lib.ListN.{get_or}
use borrow.Author.Tests.{eq-eqb, ne_eqb, eqb-true, eqb-false, ltb-false, not-true}
use Rattle.types.specs.declared.Header.{Header}
use Rattle.numbers.specs.Gcd.{gcd}
use Rattle.numbers.specs.Search.{any}
use Rattle.numbers.proofs.Gcd.{gcd_one}
use Rattle.numbers.proofs.Inverse.{coprime_mul, coprime_factors}
use Rattle.numbers.proofs.Search.{any_suc, any_of, any_false, find_within}
use Rattle.sigma.specs.Element.{is_element, some_non_element}
use Rattle.modular.specs.FirstFailing.{first_failing}
use Rattle.modular.proofs.ElementTest.{element_root}

-- a product, reduced, is coprime to the modulus exactly if both factors are
coprime_test : (m v w : ℕ) → eqb (gcd (v * w % m) m) 1 ≡ eqb (gcd v m) 1 && eqb (gcd w m) 1
coprime_test m v w = both (eqb (gcd v m) 1) (eqb (gcd w m) 1) refl refl
  where
    both : (a b : Bool) → eqb (gcd v m) 1 ≡ a → eqb (gcd w m) 1 ≡ b → eqb (gcd (v * w % m) m) 1 ≡ a && b
    both true true e f = eq-eqb _ 1 (coprime_mul m v w (eqb-true _ 1 e) (eqb-true _ 1 f))
    both true false e f = ne_eqb _ 1 (λ one. eqb-false _ 1 f (coprime_factors m v w one).1)
    both false b e f = ne_eqb _ 1 (λ one. eqb-false _ 1 e (coprime_factors m v w one).0)

-- no test has failed and the next one passes
none_and : (a b : Bool) → not a && b ≡ not (a || not b)
none_and true b = refl
none_and false true = refl
none_and false false = refl

module _ (h : Header) (vs : List ℕ) where
  -- no value is no group element, and the empty product is coprime to m
  pub units_start : eqb (gcd 1 h.modulus) 1 ≡ not (some_non_element h 0 vs)
  unfolding some_non_element
  units_start =
      rw ((any_false 0 (λ i. not (is_element h (get_or vs i 0)))).1 (λ j below. absurd (omega arith)))
      (eq-eqb _ 1 ((gcd_one 1 h.modulus).1 (λ d p q. eq-one_of_dvd-one p)))

  -- a value in range is a group element exactly if the product stays coprime to m
  pub units_on : (i p : ℕ) {p' : ℕ} → h.kind ≢ 1 → 1 ≤ get_or vs i 0 → get_or vs i 0 < h.modulus → p' ≡ p * get_or vs i 0 % h.modulus
      → eqb (gcd p h.modulus) 1 ≡ not (some_non_element h i vs)
      → eqb (gcd p' h.modulus) 1 ≡ not (some_non_element h (i + 1) vs)
  unfolding some_non_element
  units_on i p kind low high is_product kept =
      rw (is_product, add-one, any_suc)
      (coprime_test h.modulus p (get_or vs i 0)
      ∙ ap₂ (λ (a b : Bool). a && b) kept (element_root h (get_or vs i 0) low high kind refl)
      ∙ none_and (some_non_element h i vs) (is_element h (get_or vs i 0)))

  -- a value that is no group element decides
  pub units_out : (n i : ℕ) → i < n → false ≡ is_element h (get_or vs i 0) → false ≡ not (some_non_element h n vs)
  unfolding some_non_element
  units_out n i below fails = sym (ap not (any_of n (λ j. not (is_element h (get_or vs j 0))) i below (ap not (sym fails))))

  -- where all values are group elements, the search for one that is none ends behind them
  pub units_all : (n : ℕ) → not (some_non_element h n vs) ≡ true → n ≡ first_failing (is_element h) n vs
  unfolding some_non_element any first_failing
  units_all n all =
      let first : ℕ = first_failing (is_element h) n vs in
      let past : n ≤ first = ltb-false first n (not-true _ all) in
      omega (arith, (find_within (λ i. not (is_element h (get_or vs i 0))) 0 n).1)
