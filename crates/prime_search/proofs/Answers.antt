-- What the search by words of primes answers at each of its ends.
-- Assumes nothing.
use mathlib.Core.Path.{◌≡◌, sym, subst, ◌∙◌, ap}
use mathlib.Core.List.{List}
use Prim.Native.Nat.{ℕ, suc, ◌/◌, ◌%◌, ◌≤◌, ◌<◌, ◌∣◌}
use native.Mathlib.Nat.{dvd_refl, dvd_of_mod-eq-zero, mod-eq-zero_of_dvd}
use native.Mathlib.Decide.{dec_lt}
use native.Mathlib.Omega.{arith}
use borrow.Author.Tests.{lt-ltb, le-ltb}
use Rattle.std.specs.Prelude.{Option, Some, None}
use Rattle.numbers.specs.Divisors.{NoDivisorBelow}
use Rattle.numbers.proofs.Divisors.{no_divisor_next, no_divisor_above_root}
use Rattle.modular.specs.Divisor.{divisor_of}
use Rattle.modular.proofs.FirstDivisor.{divisor_found, divisor_nothing}
use Rattle.prime_words.specs.Words.{Table, before}
use Rattle.prime_words.proofs.Rule.{Clear, rule_end}
use Rattle.prime_search.specs.Search.{Searched, within_of}
use Rattle.prime_search.proofs.Passing.{clear_on, one_more, Passed}

none_below_two : (n : ℕ) → NoDivisorBelow n 2
none_below_two n d large below = absurd (omega arith)

none_below_three : (n : ℕ) → ¬ (n % 2 ≡ 0) → NoDivisorBelow n 3
none_below_three n odd = one_more n 2 (none_below_two n) (λ whole. odd (mod-eq-zero_of_dvd 2 whole))

-- neither 2 nor 3 divides
pub none_below_four : (n : ℕ) → ¬ (n % 2 ≡ 0) → ¬ (n % 3 ≡ 0) → NoDivisorBelow n 4
none_below_four n odd fails = one_more n 3 (none_below_three n odd) (λ whole. fails (mod-eq-zero_of_dvd 3 whole))

module _ (n k : ℕ) where
  -- the first divisor, if it is below K
  within_first : (d : ℕ) → 2 ≤ d → d ∣ n → NoDivisorBelow n d → within_of d k ≡ divisor_of n k
  unfolding within_of
  within_first d large whole none = elim (dec_lt d k) [
    | yes below ↦ rw (lt-ltb d k below) (divisor_found n k d large below (mod-eq-zero_of_dvd d whole) none)
    | no past ↦ rw (le-ltb d k (omega arith)) (divisor_nothing n k d (omega arith) none)
  ]

  -- an even number
  pub answer_two : n % 2 ≡ 0 → within_of 2 k ≡ divisor_of n k
  answer_two whole = within_first 2 (omega arith) (dvd_of_mod-eq-zero 2 whole) (none_below_two n)

  -- an odd number that 3 divides
  pub answer_three : ¬ (n % 2 ≡ 0) → n % 3 ≡ 0 → within_of 3 k ≡ divisor_of n k
  answer_three odd whole = within_first 3 (omega arith) (dvd_of_mod-eq-zero 3 whole) (none_below_three n odd)

  -- a divisor that a word has
  pub answer_found : (b d : ℕ) {r : Option ℕ} → r ≡ Some d → Searched n b r → within_of d k ≡ divisor_of n k
  answer_found b d is_d s =
      let first = s.found d is_d in
      within_first d first.large first.whole first.none

  -- a number that nothing up to its square root divides
  pub answer_root : (b : ℕ) → 2 ≤ n → 2 ≤ b → n / b < b → NoDivisorBelow n (suc b) → within_of n k ≡ divisor_of n k
  answer_root b many large root none =
      let below : NoDivisorBelow n b = λ d h l. none d h (omega arith) in
      within_first n many (dvd_refl n) (no_divisor_next n b n below (none b large (omega arith))
      (no_divisor_above_root n b below (omega arith) root))

  -- K is not above the numbers tried
  pub answer_past : (b : ℕ) → k ≤ b → NoDivisorBelow n (suc b) → None ≡ divisor_of n k
  answer_past b past none = divisor_nothing n k (suc b) (omega arith) none

-- after the last word no number up to 65,536 is left
pub answer_end : (es : List ℕ) → Table es → (n k i a most : ℕ) → 2 ≤ n → n < 4294967296 → 1308 ≤ i
    → Passed es n i a most → within_of n k ≡ divisor_of n k
answer_end es holds n k i a most many fits past p =
    let all : a ≡ before 3 es 1308 = p.last_is ∙ ap (before 3 es) (omega (arith, p.inside)) in
    let none = clear_on n a 65537 p.none (subst (λ (x : ℕ). Clear x 65537) (sym all) (rule_end es holds)) in
    answer_root n k 65536 many (omega arith) (omega arith) none
