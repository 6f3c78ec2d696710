-- The search for a divisor: what it answers where it ends, and no two answers have the same outcome.
-- Assumes nothing.
use mathlib.Core.Path.{◌≡◌, refl, sym, ap}
use mathlib.Core.Bool.{Bool, true, false, cond}
use mathlib.Core.Logic.{◌↔◌}
use Prim.Native.Nat.{ℕ, ◌-◌, ◌%◌, ◌≤◌, ◌<◌, ◌∣◌}
use native.Mathlib.Nat.{dvd_of_mod-eq-zero}
use native.Mathlib.Omega.{arith}
use lib.Dec.{eqb, ltb}
use borrow.Author.Tests.{eq-eqb, ne_eqb, lt-ltb, le-ltb, ltb-true, ltb-false}
use Rattle.std.specs.Prelude.{Option, Some, None}
use Rattle.numbers.specs.Divisors.{NoDivisorBelow}
use Rattle.numbers.proofs.Search.{find_is, find_none}
use Rattle.sigma.specs.Admission.{first_divisor}
use Rattle.sigma.specs.Answer.{Outcome}
use Rattle.modular.specs.Divisor.{divisor_outcome, divisor_of}

-- two answers with the same outcome are the same
pub divisor_outcome_injective : (a b : Option ℕ) → divisor_outcome a ≡ divisor_outcome b → a ≡ b
unfolding divisor_outcome
divisor_outcome_injective a b e = compare a b (ap (λ (o : Outcome). o.values) e)
  where
    compare : (a b : Option ℕ) → (divisor_outcome a).values ≡ (divisor_outcome b).values → a ≡ b
    compare (Some d) (Some d') e = cc
    compare (Some d) None e = cc
    compare None (Some d) e = cc
    compare None None e = refl

-- the search finds d exactly if it ends there, before K
pub divisor_of_found : (order challenges d : ℕ)
    → (divisor_of order challenges ≡ Some d) ↔ ((first_divisor order challenges ≡ d) × (d < challenges))
unfolding divisor_of
divisor_of_found order challenges d =
    ((λ e. ends (ltb first challenges) refl e), (λ h. rw (h.0, lt-ltb d challenges h.1)))
  where
    first : ℕ
    first = first_divisor order challenges

    ends : (t : Bool) → ltb first challenges ≡ t → cond t (Some first) None ≡ Some d → (first ≡ d) × (d < challenges)
    ends true below e = let same : first ≡ d = cc in (same, omega (arith, ltb-true))
    ends false past e = let z : ◌≡◌ {A = ℕ} 0 1 = cc in absurd (omega arith)

-- the search finds nothing exactly if it ends at K or behind
pub divisor_of_nothing : (order challenges : ℕ)
    → (divisor_of order challenges ≡ None) ↔ (challenges ≤ first_divisor order challenges)
unfolding divisor_of
divisor_of_nothing order challenges =
    ((λ e. ends (ltb first challenges) refl e), (λ h. rw (le-ltb first challenges h)))
  where
    first : ℕ
    first = first_divisor order challenges

    ends : (t : Bool) → ltb first challenges ≡ t → cond t (Some first) None ≡ None → challenges ≤ first
    ends true below e = let z : ◌≡◌ {A = ℕ} 0 1 = cc in absurd (omega arith)
    ends false past e = ltb-false first challenges past

-- the test of the search fails at a number that does not divide ℓ
test_fails : (order d : ℕ) → ¬ (d ∣ order) → eqb (order % d) 0 ≡ false
test_fails order d fails = ne_eqb (order % d) 0 (λ whole. fails (dvd_of_mod-eq-zero d whole))

-- a d below K that divides ℓ, as no number before it does, is what the search finds
pub divisor_found : (order challenges d : ℕ) → 2 ≤ d → d < challenges → order % d ≡ 0 → NoDivisorBelow order d
    → Some d ≡ divisor_of order challenges
unfolding first_divisor
divisor_found order challenges d large below whole none =
    let fails : (e : ℕ) → 2 ≤ e → e < d → eqb (order % e) 0 ≡ false = λ e h k. test_fails order e (none e h k) in
    let first = find_is _ 2 (challenges - 2) d large (omega arith) (eq-eqb (order % d) 0 whole) fails in
    sym ((divisor_of_found order challenges d).1 (first, below))

-- where no number below K divides ℓ, the search finds nothing
pub divisor_nothing : (order challenges d : ℕ) → challenges ≤ d → NoDivisorBelow order d → None ≡ divisor_of order challenges
unfolding first_divisor
divisor_nothing order challenges d past none =
    let passed = (find_none _ 2 (challenges - 2)).0 (λ e h k. test_fails order e (none e h (omega arith))) in
    sym ((divisor_of_nothing order challenges).1 (omega arith))
