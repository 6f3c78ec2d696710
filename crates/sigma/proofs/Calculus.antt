-- Tests of any kind, beside the calculus of the rules: opposites, bounded searches and divisibility.
-- Assumes nothing.
use Prim.Native.Nat.{ℕ, ◌%◌, ◌<◌, ◌≤◌, ◌∣◌}
use mathlib.Core.Path.{◌≡◌, refl, sym, ap, ◌∙◌}
use mathlib.Core.Logic.{◌↔◌, ⊎_elim}
use mathlib.Core.Bool.{Bool, true, false, not, ◌||◌, true≢false}
use native.Mathlib.Nat.{dvd_of_mod-eq-zero, mod-eq-zero_of_dvd}
use native.Mathlib.Omega.{arith}
use lib.Dec.{eqb}
use borrow.Author.Tests.{not-false}
use Rattle.numbers.specs.Search.{any, find}
use Rattle.numbers.proofs.Search.{any_true, any_of, any_false, find_first, find_holds, find_is, find_none}
use Rattle.rules.specs.Says.{Says}
use Rattle.rules.proofs.Says.{says_equal, says_iff, says_decides, says_false}

-- the opposite of a test is false exactly when the fact holds
pub says_passes : {t : Bool} {P : Type 0} → Says t P → (not t ≡ false) ↔ P
says_passes {t} s = (λ e. s.sound (not-false t e), λ x. rw (s.complete x))

-- a fact that a test says holds where it cannot fail
pub says_stable : {t : Bool} {P : Type 0} → Says t P → ¬ (¬ P) → P
says_stable s n = ⊎_elim (λ x. x) (λ y. absurd (n y)) (says_decides s)

-- the test of one or the other is false exactly when both are
pub both_fail : (a b : Bool) → ((a || b) ≡ false) ↔ ((a ≡ false) × (b ≡ false))
both_fail true b = (λ e. absurd (true≢false e), λ x. x.0)
both_fail false b = (λ e. (refl, e), λ x. x.1)

-- a search below n ends with an index that has the property
pub says_any : (n : ℕ) (p : ℕ → Bool) (P : ℕ → Type 0) → ((j : ℕ) → Says (p j) (P j)) → Says (any n p) ((j : ℕ) × (j < n) × P j)
says_any n p P s = record {
  sound = λ e. let (j, h, t) = any_true n p e in (j, h, (s j).sound t);
  complete = λ x. any_of n p x.0 x.1 ((s x.0).complete x.2);
}

-- no index below n fails exactly when all have the property
pub all_pass : (n : ℕ) (p : ℕ → Bool) (P : ℕ → Type 0) → ((j : ℕ) → Says (p j) (P j))
    → (any n (λ j. not (p j)) ≡ false) ↔ ((j : ℕ) → j < n → P j)
all_pass n p P s =
    let fails = any_false n (λ j. not (p j)) in
    (λ e j h. (says_passes (s j)).0 (fails.0 e j h), λ f. fails.1 (λ j h. (says_passes (s j)).1 (f j h)))

-- a search below n ends at an index exactly if that is the first that has the property
pub says_first : (n : ℕ) (p : ℕ → Bool) (P : ℕ → Type 0) → ((j : ℕ) → j < n → Says (p j) (P j)) → (b : ℕ)
    → ((b < n) × (find p 0 n ≡ b)) ↔ ((b < n) × P b × ((i : ℕ) → i < b → ¬ P i))
says_first n p P s b = (
  λ (inside, e). (
    inside,
    (s b inside).sound (ap p (sym e) ∙ find_holds p 0 n (omega arith)),
    λ i before. (says_false (s i (omega arith))).0 (find_first p 0 n i (omega arith) (omega arith)),
  ),
  λ (inside, holds, none). (
    inside,
    find_is p 0 n b (omega arith) (omega arith) ((s b inside).complete holds)
        (λ i from before. (says_false (s i (omega arith))).1 (none i before)),
  ),
)

-- and not below n exactly if none has it
pub says_nowhere : (n : ℕ) (p : ℕ → Bool) (P : ℕ → Type 0) → ((j : ℕ) → j < n → Says (p j) (P j))
    → (n ≤ find p 0 n) ↔ ((j : ℕ) → j < n → ¬ P j)
says_nowhere n p P s = (
  λ past j inside. (says_false (s j inside)).0 (find_first p 0 n j (omega arith) (omega arith)),
  λ none.
      let end = (find_none p 0 n).0 (λ i from before. (says_false (s i (omega arith))).1 (none i (omega arith))) in
      omega (arith, end),
)

-- the remainder's test says divisibility
pub says_divides : (d n : ℕ) → Says (eqb (n % d) 0) (d ∣ n)
says_divides d n = says_iff (says_equal (n % d) 0) (dvd_of_mod-eq-zero d, mod-eq-zero_of_dvd d)
