-- How the search by words of primes goes on: by a number, by the five of a word, and by the words of a table.
-- Assumes nothing.
use mathlib.Core.Path.{◌≡◌, refl, sym, subst, ◌∙◌, ap}
use mathlib.Core.List.{List}
use Prim.Native.Nat.{ℕ, zero, suc, ◌+◌, ◌-◌, ◌/◌, ◌%◌, ◌≤◌, ◌<◌, ◌∣◌}
use native.Mathlib.Nat.{div-le_self, div-mul-le_self, le_refl, le-div_iff_mul-le, le_trans, mul-le-mul_left, dvd_trans, dvd_of_mod-eq-zero}
use native.Mathlib.Decide.{dec_lt}
use native.Mathlib.Numerals.{add-one}
use native.Mathlib.Omega.{arith}
use lib.Dec.{T}
use lib.ListN.{get_or}
use Rattle.numbers.specs.Divisors.{NoDivisorBelow}
use Rattle.numbers.proofs.Divisors.{no_divisor_next}
use Rattle.prime_words.specs.Words.{next, last, all_clear, Table, before, Good}
use Rattle.prime_words.proofs.Rule.{Clear, clear_next, clear_later, rule_at, before_next}
use Rattle.std.specs.Prelude.{Some, None}
use Rattle.prime_search.specs.Search.{FirstIs, Searched}

-- ---- one number

-- a number with a factor that was tried does not divide
pub clear_on : (n a b : ℕ) → NoDivisorBelow n (suc a) → Clear a b → NoDivisorBelow n b
clear_on n a b none clear d large below whole = elim (dec_lt d (suc a)) [
  | yes tried ↦ none d large tried whole
  | no after ↦
      let f = clear d (omega arith) below in
      none f.factor f.large (omega (arith, f.low)) (dvd_trans f.factor f.whole whole)
]

-- one number more that does not divide
pub one_more : (n b : ℕ) → NoDivisorBelow n b → ¬ (b ∣ n) → NoDivisorBelow n (suc b)
one_more n b none fails = no_divisor_next n b (suc b) none fails (λ e after below. absurd (omega arith))

-- a larger divisor has no larger quotient
pub quotient_falls : (n p q : ℕ) → 0 < p → p ≤ q → n / q ≤ n / p
quotient_falls n p q some order =
    (le-div_iff_mul-le some).1 (le_trans (mul-le-mul_left (n / q) order) (div-mul-le_self n q))

-- ---- one word

-- the numbers do not fall
pub next_rises : (a gaps : ℕ) → a ≤ next a gaps
unfolding next
next_rises a gaps = omega arith

last_rises : (k a gaps : ℕ) → a ≤ last k a gaps
unfolding last
last_rises zero a gaps = le_refl a
last_rises (suc k) a gaps = le_trans (next_rises a gaps) (last_rises k (next a gaps) (gaps / 64))

-- nothing before the number after a divides
none_next : (n k a gaps : ℕ) → T (all_clear (suc k) a gaps) → NoDivisorBelow n (suc a) → NoDivisorBelow n (next a gaps)
none_next n k a gaps t none = clear_on n a (next a gaps) none (clear_next k a gaps t)

-- a walk through the word's numbers: k are left after a, which end at b, and nothing up to a divides
pub record Walk (n k a gaps b : ℕ) : Type 0 where
  pub large : 3 ≤ a
  pub clears : T (all_clear k a gaps)
  pub ends : last k a gaps ≡ b
  pub none : NoDivisorBelow n (suc a)

-- before the first number of a word
pub walk_start : (n a e : ℕ) → Good a e → 3 ≤ a → NoDivisorBelow n (suc a) → Walk n 5 a e (last 5 a e)
walk_start n a e good large none = record { large = large; clears = good.clears; ends = refl; none = none }

-- the number p after a divides: it is the first divisor
pub walk_found : (n k a gaps b p : ℕ) → 0 < k → Walk n k a gaps b → p ≡ next a gaps → n % p ≡ 0 → Searched n b (Some p)
walk_found n zero a gaps b p some w same whole = absurd (omega arith)
walk_found n (suc k) a gaps b p some w same whole =
    let large : 3 ≤ p = omega (arith, w.large, next_rises a gaps) in
    record {
      nothing = λ z. absurd cc;
      found = λ d is_d.
          let same_d : p ≡ d = cc in
          subst (FirstIs n) same_d (record {
            large = omega arith;
            whole = dvd_of_mod-eq-zero p whole;
            none = subst (NoDivisorBelow n) (sym same) (none_next n k a gaps w.clears w.none);
          });
    }

-- it does not: the walk goes on
pub walk_on : (n k a gaps b p : ℕ) → 0 < k → Walk n k a gaps b → p ≡ next a gaps → ¬ (p ∣ n) → Walk n (k - 1) p (gaps / 64) b
unfolding last
walk_on n zero a gaps b p some w same fails = absurd (omega arith)
walk_on n (suc k) a gaps b p some w same fails =
    let one_less : k ≡ suc k - 1 = omega arith in
    let none = one_more n (next a gaps) (none_next n k a gaps w.clears w.none)
    (λ whole. fails (rw same whole)) in
    subst (λ (x : ℕ). Walk n x p (gaps / 64) b) one_less (subst (λ (x : ℕ). Walk n k x (gaps / 64) b) (sym same) (record {
      large = le_trans w.large (next_rises a gaps);
      clears = clear_later k a gaps w.clears;
      ends = w.ends;
      none = none;
    }))

-- no number is left
pub walk_end : (n k a gaps b : ℕ) → k ≡ 0 → Walk n k a gaps b → Searched n b None
unfolding last
walk_end n zero a gaps b z w =
    record { nothing = λ e. subst (λ (x : ℕ). NoDivisorBelow n (suc x)) w.ends w.none; found = λ d is_d. absurd cc }
walk_end n (suc k) a gaps b z w = absurd (omega arith)

-- ---- the words of a table

-- the state of the search before the word at i: a is the last number before it, nothing up to a divides, and no quotient by a number
-- from a on is above `most`
pub record Passed (es : List ℕ) (n i a most : ℕ) : Type 0 where
  pub inside : i ≤ 1308
  pub last_is : a ≡ before 3 es i
  pub large : 3 ≤ a
  pub small : a ≤ 65535
  pub bound : n / a ≤ most
  pub none : NoDivisorBelow n (suc a)

-- before the first word
pub passed_start : (es : List ℕ) (n : ℕ) → NoDivisorBelow n 4 → Passed es n 0 3 n
unfolding before
passed_start es n none = record {
  inside = omega arith;
  last_is = refl;
  large = omega arith;
  small = omega arith;
  bound = div-le_self n 3;
  none = none;
}

module _ (es : List ℕ) (holds : Table es) (n : ℕ) where
  -- the rule at the word that comes next
  pub good_here : (i a most : ℕ) → i < 1308 → Passed es n i a most → Good a (get_or es i 0)
  good_here i a most inside p = subst (λ (x : ℕ). Good x (get_or es i 0)) (sym p.last_is) (rule_at es holds i inside)

  -- one word more
  pub passed_on : (i a most b c : ℕ) → i < 1308 → Passed es n i a most → b ≡ last 5 a (get_or es i 0) → n / a ≤ c
      → NoDivisorBelow n (suc (last 5 a (get_or es i 0))) → Passed es n (i + 1) b c
  passed_on i a most b c inside p ends bound none =
      let rises = last_rises 5 a (get_or es i 0) in
      let next_is = ap (λ (x : ℕ). last 5 x (get_or es i 0)) p.last_is in
      record {
        inside = omega arith;
        last_is = ends ∙ next_is ∙ sym (before_next es holds i inside) ∙ ap (before 3 es) (sym (add-one i));
        large = omega (arith, p.large);
        small = omega (arith, (good_here i a most inside p).low);
        bound = omega (arith, quotient_falls n a b (omega (arith, p.large)) (omega arith));
        none = subst (λ (x : ℕ). NoDivisorBelow n (suc x)) (sym ends) none;
      }
