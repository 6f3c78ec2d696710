-- The search for the first value that fails a test: where it ends, and sigma's tests over several values are this search.
-- Assumes nothing.
use mathlib.Core.Path.{◌≡◌, refl, sym, ap}
use mathlib.Core.Bool.{Bool, true, false, not}
use mathlib.Core.List.{List}
use mathlib.Core.Logic.{◌≢◌}
use Prim.Native.Nat.{ℕ, ◌≤◌, ◌<◌}
use native.Mathlib.Decide.{dec_lt}
use native.Mathlib.Omega.{arith}
use lib.Dec.{ltb}
use lib.ListN.{get_or}
use Rattle.types.specs.declared.Header.{Header}
use Rattle.numbers.specs.Search.{any}
use Rattle.numbers.proofs.Search.{find_is, find_none, find_agree}
use Rattle.sigma.specs.Element.{is_element, is_coordinate, some_non_element, some_non_coordinate}
use Rattle.modular.specs.FirstFailing.{first_failing}
use Rattle.modular.proofs.ElementTest.{coordinate_root}

-- where a test passes at each value before r, and fails at the value at r or there is none, the search ends at r
pub failing_is : (test : ℕ → Bool) (n : ℕ) (vs : List ℕ) (r : ℕ) → r ≤ n → ((i : ℕ) → i < r → test (get_or vs i 0) ≡ true)
    → (r < n → test (get_or vs r 0) ≡ false) → r ≡ first_failing test n vs
unfolding first_failing
failing_is test n vs r within passed failed = elim (dec_lt r n) [
  | yes below ↦ sym (find_is _ 0 n r (omega arith) (omega arith) (ap not (failed below)) (λ i from before. ap not (passed i before)))
  | no past ↦ omega (arith, (find_none (λ i. not (test (get_or vs i 0))) 0 n).0 (λ i from below. ap not (passed i (omega arith))))
]

-- some value among the first n is no group element exactly if the search ends before n
pub some_non_element_first : (h : Header) (n : ℕ) (vs : List ℕ) → some_non_element h n vs ≡ ltb (first_failing (is_element h) n vs) n
unfolding some_non_element any first_failing
some_non_element_first h n vs = refl

-- some value among the first n is no coordinate exactly if the search ends before n
pub some_non_coordinate_first : (h : Header) (n : ℕ) (xs : List ℕ)
    → some_non_coordinate h n xs ≡ ltb (first_failing (is_coordinate h) n xs) n
unfolding some_non_coordinate any first_failing
some_non_coordinate_first h n xs = refl

-- in kind 2 the first value that is no coordinate is the first that is no group element
pub coordinates_root : (h : Header) (n : ℕ) (xs : List ℕ) → h.kind ≢ 1
    → first_failing (is_element h) n xs ≡ first_failing (is_coordinate h) n xs
unfolding first_failing
coordinates_root h n xs kind = find_agree _ _ 0 n (λ i from below. ap not (coordinate_root h (get_or xs i 0) kind))
