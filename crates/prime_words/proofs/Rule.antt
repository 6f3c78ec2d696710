-- The rule of the table of primes: what its one computed test says at each word.
-- Assumes nothing.
use mathlib.Core.Path.{◌≡◌, refl, subst}
use mathlib.Core.Bool.{Bool, true, false}
use mathlib.Core.Logic.{◌⊎◌, inl, inr}
use mathlib.Core.List.{List, [], ◌∷◌}
use Prim.Native.Nat.{ℕ, zero, suc, ◌+◌, ◌-◌, ◌/◌, ◌%◌, ◌≤◌, ◌<◌, ◌∣◌}
use native.Mathlib.Nat.{eq-or-lt_of_le, le_of_suc-le-suc, not-suc-le-zero, dvd_of_mod-eq-zero}
use native.Mathlib.Omega.{arith}
use lib.Dec.{T, eqb, leb, leb→le, eqb→eq}
use lib.ListN.{length, get_or}
use Rattle.prime_words.specs.Words.{next, last, both, either, small, is_factor, has_factor, all_factored, clear}
use Rattle.prime_words.specs.Words.{all_clear, is_good, all_good, Table, before, Good}

-- d has a factor that lies from 2 to a
pub record Factored (a d : ℕ) : Type 0 where
  pub factor : ℕ
  pub large : 2 ≤ factor
  pub low : factor ≤ a
  pub whole : factor ∣ d

-- each number between a and b has
abbrev pub Clear : ℕ → ℕ → Type 0
Clear a b = (d : ℕ) → a < d → d < b → Factored a d

both_left : (a b : Bool) → T (both a b) → T a
unfolding both
both_left true b t = tt
both_left false b t = t

both_right : (a b : Bool) → T (both a b) → T b
unfolding both
both_right true b t = t
both_right false b t = absurd t

either_cases : (a b : Bool) → T (either a b) → T a ⊎ T b
unfolding either
either_cases true b t = inl t
either_cases false b t = inr t

factor_of : (a d s : ℕ) → T (is_factor a d s) → Factored a d
unfolding is_factor
factor_of a d s t =
    let rest = both_right (leb 2 s) _ t in
    record {
      factor = s;
      large = leb→le 2 s (both_left _ _ t);
      low = leb→le s a (both_left _ _ rest);
      whole = dvd_of_mod-eq-zero s (eqb→eq (d % s) 0 (both_right (leb s a) _ rest));
    }

factored : (ss : List ℕ) (a d : ℕ) → T (has_factor ss a d) → Factored a d
unfolding has_factor
factored [] a d t = absurd t
factored (s ∷ ss) a d t = elim (either_cases (is_factor a d s) (has_factor ss a d) t) [
  | inl here ↦ factor_of a d s here
  | inr later ↦ factored ss a d later
]

all_factored_law : (n d a : ℕ) → T (all_factored n d a) → (e : ℕ) → d ≤ e → e < d + n → Factored a e
unfolding all_factored
all_factored_law zero d a t e h k = absurd (omega arith)
all_factored_law (suc n) d a t e h k = elim (eq-or-lt_of_le h) [
  | inl same ↦ subst (λ (x : ℕ). Factored a x) same (factored small a d (both_left _ _ t))
  | inr later ↦ all_factored_law n (suc d) a (both_right (has_factor small a d) _ t) e later (omega arith)
]

clear_all : (a b : ℕ) → T (clear a b) → Clear a b
unfolding clear
clear_all a b t d h k = all_factored_law (b - suc a) (suc a) a t d h (omega arith)

-- ---- the numbers of a word

-- between a and the number after it
pub clear_next : (n a gaps : ℕ) → T (all_clear (suc n) a gaps) → Clear a (next a gaps)
unfolding all_clear
clear_next n a gaps t = clear_all a (next a gaps) (both_left _ _ t)

-- after the number after a
pub clear_later : (n a gaps : ℕ) → T (all_clear (suc n) a gaps) → T (all_clear n (next a gaps) (gaps / 64))
unfolding all_clear
clear_later n a gaps t = both_right (clear a (next a gaps)) _ t

-- ---- the words of a table

good_all : (a e : ℕ) → T (is_good a e) → Good a e
unfolding is_good
good_all a e t =
    let t₁ = both_right (all_clear 5 a e) _ t in
    record {
      clears = both_left _ _ t;
      low = leb→le (last 5 a e) 65535 (both_left _ _ t₁);
      inverts = eqb→eq _ 1 (both_right (leb (last 5 a e) 65535) _ t₁);
    }

good_at : (a : ℕ) (es : List ℕ) → T (all_good a es) → (k : ℕ) → k < length es → T (is_good (before a es k) (get_or es k 0))
unfolding all_good before
good_at a [] t k h = absurd (not-suc-le-zero h)
good_at a (e ∷ es) t zero h = both_left _ _ t
good_at a (e ∷ es) t (suc k) h = good_at (last 5 a e) es (both_right (is_good a e) _ t) k (le_of_suc-le-suc h)

clear_end : (a : ℕ) (es : List ℕ) → T (all_good a es) → T (clear (before a es (length es)) 65537)
unfolding all_good before
clear_end a [] t = t
clear_end a (e ∷ es) t = clear_end (last 5 a e) es (both_right (is_good a e) _ t)

before_suc : (a : ℕ) (es : List ℕ) (k : ℕ) → k < length es → before a es (suc k) ≡ last 5 (before a es k) (get_or es k 0)
unfolding before
before_suc a [] k h = absurd (not-suc-le-zero h)
before_suc a (e ∷ es) zero h = refl
before_suc a (e ∷ es) (suc k) h = before_suc (last 5 a e) es k (le_of_suc-le-suc h)

module _ (es : List ℕ) (holds : Table es) where
  -- the rule at the word at i, after the words before it
  pub rule_at : (i : ℕ) → i < 1308 → Good (before 3 es i) (get_or es i 0)
  rule_at i h = good_all _ _ (good_at 3 es holds.0 i (omega (arith, holds.1)))

  -- the rule after the last word
  pub rule_end : Clear (before 3 es 1308) 65537
  rule_end = clear_all _ 65537 (subst (λ (x : ℕ). T (clear (before 3 es x) 65537)) holds.1 (clear_end 3 es holds.0))

  -- the last number of one word more
  pub before_next : (i : ℕ) → i < 1308 → before 3 es (suc i) ≡ last 5 (before 3 es i) (get_or es i 0)
  before_next i h = before_suc 3 es i (omega (arith, holds.1))
