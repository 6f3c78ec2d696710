-- Laws of bounded search: where it ends, what holds there, and what holds before.
-- Assumes nothing.
use mathlib.Core.Path.{◌≡◌, refl, sym, ◌∙◌, ap}
use mathlib.Core.Bool.{Bool, true, false, true≢false, ◌||◌}
use mathlib.Core.Logic.{inl, inr, ◌↔◌}
use Prim.Native.Nat.{ℕ, zero, suc, ◌+◌, ◌-◌, ◌≤◌, ◌<◌}
use native.Mathlib.Nat.{eq-or-lt_of_le}
use native.Mathlib.Numerals.{add-one}
use native.Mathlib.Decide.{dec_lt}
use native.Mathlib.Omega.{arith}
use borrow.Author.Tests.{ltb-true, ltb-false, lt-ltb, le-ltb}
use Rattle.numbers.specs.Search.{find, any}

-- a search through no places ends where it begins
pub find_end : (p : ℕ → Bool) (from : ℕ) → find p from 0 ≡ from
unfolding find
find_end p from = refl

-- a test that passes at the first place ends the search there
pub find_here : (p : ℕ → Bool) (from n : ℕ) → p from ≡ true → find p from (suc n) ≡ from
unfolding find
find_here p from n e = rw (e, find)

-- a test that fails at the first place leaves the search to the next one
pub find_on : (p : ℕ → Bool) (from n : ℕ) → p from ≡ false → find p from (suc n) ≡ find p (suc from) n
unfolding find
find_on p from n e = rw (e, find)

-- a search from 0 up to an end
pub find_to_start : (p : ℕ → Bool) (end : ℕ) → find p 0 (end - 0) ≡ find p 0 end
find_to_start p end = ap (find p 0) (omega arith)

-- a search up to an end that is not past its first place ends there
pub find_to_end : (p : ℕ → Bool) (from end : ℕ) → end ≤ from → find p from (end - from) ≡ from
find_to_end p from end past = ap (find p from) {y = 0} (omega arith) ∙ find_end p from

-- a test that passes at the first place ends a search up to a later place there
pub find_to_here : (p : ℕ → Bool) (from end : ℕ) → from < end → p from ≡ true → find p from (end - from) ≡ from
find_to_here p from end before e = ap (find p from) {y = suc (end - suc from)} (omega arith) ∙ find_here p from _ e

-- a test that fails at the first place leaves a search up to a later place to the next one
pub find_to_on : (p : ℕ → Bool) (from end : ℕ) → from < end → p from ≡ false
    → find p (from + 1) (end - (from + 1)) ≡ find p from (end - from)
find_to_on p from end before e =
    rw add-one (sym (find_on p from _ e) ∙ ap (find p from) {x = suc (end - suc from)} (omega arith))

-- the two ways in which a search through at least one place can go
data FirstPlace (p : ℕ → Bool) (from n : ℕ) : Type 0 where
  here : p from ≡ true → find p from (suc n) ≡ from → FirstPlace p from n
  on : p from ≡ false → find p from (suc n) ≡ find p (suc from) n → FirstPlace p from n

-- a search through at least one place goes in one of the two ways
first_place : (p : ℕ → Bool) (from n : ℕ) → FirstPlace p from n
first_place p from n = go (p from) refl
  where
    go : (b : Bool) → p from ≡ b → FirstPlace p from n
    go true e = here e (find_here p from n e)
    go false e = on e (find_on p from n e)

-- a search ends within the places searched, or just behind them
pub find_within : (p : ℕ → Bool) (from n : ℕ) → (from ≤ find p from n) × (find p from n ≤ from + n)
find_within p from zero = omega (arith, find_end p from)
find_within p from (suc n) = elim (first_place p from n) [ here e f ↦ omega arith | on e f ↦ omega (arith, find_within p (suc from) n) ]

-- where a search ends within the places searched, the test holds
pub find_holds : (p : ℕ → Bool) (from n : ℕ) → find p from n < from + n → p (find p from n) ≡ true
find_holds p from zero h = absurd (omega (arith, find_end p from))
find_holds p from (suc n) h = elim (first_place p from n) [
  | here e f ↦ ap p f ∙ e
  | on e f ↦ ap p f ∙ find_holds p (suc from) n (omega arith)
]

-- before the place where a search ends, the test fails
pub find_first : (p : ℕ → Bool) (from n i : ℕ) → from ≤ i → i < find p from n → p i ≡ false
find_first p from zero i h k = absurd (omega (arith, find_end p from))
find_first p from (suc n) i h k = elim (first_place p from n) [
  | here e f ↦ absurd (omega arith)
  | on e f ↦ elim (eq-or-lt_of_le h) [ inl same ↦ ap p (sym same) ∙ e | inr later ↦ find_first p (suc from) n i later (omega arith) ]
]

-- a test does not both pass and fail
not_both : (b : Bool) → b ≡ true → b ≡ false → ⊥
not_both b t f = true≢false (sym t ∙ f)

-- a search ends behind the places searched exactly if the test fails at each of them
pub find_none : (p : ℕ → Bool) (from n : ℕ)
    → ((i : ℕ) → from ≤ i → i < from + n → p i ≡ false) ↔ (find p from n ≡ from + n)
find_none p from n = (found_none, none_found)
  where
    found_none : ((i : ℕ) → from ≤ i → i < from + n → p i ≡ false) → find p from n ≡ from + n
    found_none fails = elim (eq-or-lt_of_le (find_within p from n).1) [
      | inl same ↦ same
      | inr less ↦ absurd (not_both _ (find_holds p from n less) (fails (find p from n) (find_within p from n).0 less))
    ]

    none_found : find p from n ≡ from + n → (i : ℕ) → from ≤ i → i < from + n → p i ≡ false
    none_found e i h k = find_first p from n i h (omega arith)

-- the first place at which the test holds is where the search ends
pub find_is : (p : ℕ → Bool) (from n k : ℕ) → from ≤ k → k < from + n → p k ≡ true
    → ((i : ℕ) → from ≤ i → i < k → p i ≡ false) → find p from n ≡ k
find_is p from n k h l holds fails = elim (dec_lt k (find p from n)) [
  | yes after ↦ absurd (not_both _ holds (find_first p from n k h after))
  | no not_after ↦ elim (dec_lt (find p from n) k) [
    | yes before ↦ absurd (not_both _ (find_holds p from n (omega arith)) (fails _ (find_within p from n).0 before))
    | no not_before ↦ omega arith
  ]
]

-- tests that agree on the places searched are searched alike
pub find_agree : (p q : ℕ → Bool) (from n : ℕ) → ((i : ℕ) → from ≤ i → i < from + n → p i ≡ q i) → find p from n ≡ find q from n
find_agree p q from zero same = find_end p from ∙ sym (find_end q from)
find_agree p q from (suc n) same =
    let at_first : p from ≡ q from = same from (omega arith) (omega arith) in
    let later : find p (suc from) n ≡ find q (suc from) n = find_agree p q (suc from) n (λ i h k. same i (omega arith) (omega arith)) in
    elim (first_place p from n) [
      | here e f ↦ f ∙ sym (find_here q from n (sym at_first ∙ e))
      | on e f ↦ f ∙ later ∙ sym (find_on q from n (sym at_first ∙ e))
    ]

-- where some test below n passes, an index at which it does
pub any_true : (n : ℕ) (p : ℕ → Bool) → any n p ≡ true → (j : ℕ) × (j < n) × (p j ≡ true)
unfolding any
any_true n p e =
    let below : find p 0 n < n = ltb-true _ _ e in
    (find p 0 n, below, find_holds p 0 n (omega arith))

-- a test that passes below n is met
pub any_of : (n : ℕ) (p : ℕ → Bool) (j : ℕ) → j < n → p j ≡ true → any n p ≡ true
unfolding any
any_of n p j h holds = elim (dec_lt (find p 0 n) n) [
  | yes below ↦ lt-ltb _ _ below
  | no not_below ↦ absurd (not_both _ holds (find_first p 0 n j (omega arith) (omega arith)))
]

-- no test below n passes exactly if each of them fails
pub any_false : (n : ℕ) (p : ℕ → Bool) → (any n p ≡ false) ↔ ((j : ℕ) → j < n → p j ≡ false)
unfolding any
any_false n p = (
  (λ e j h. let past : n ≤ find p 0 n = ltb-false _ _ e in find_first p 0 n j (omega arith) (omega arith)),
  (λ fails. le-ltb (find p 0 n) n (omega (arith, (find_none p 0 n).0 (λ i h k. fails i (omega arith))))),
)

-- tests that agree below n are met alike
pub any_agree : (n : ℕ) (p q : ℕ → Bool) → ((j : ℕ) → j < n → p j ≡ q j) → any n p ≡ any n q
unfolding any
any_agree n p q same = rw (find_agree p q 0 n (λ i h k. same i (omega arith)))

-- one place more: some test passed before it, or the one at it does
pub any_suc : (n : ℕ) (p : ℕ → Bool) → any (suc n) p ≡ any n p || p n
any_suc n p = go (any n p) (p n) refl refl
  where
    go : (a b : Bool) → any n p ≡ a → p n ≡ b → any (suc n) p ≡ a || b
    go true b e last = let (j, h, holds) = any_true n p e in any_of (suc n) p j (omega arith) holds
    go false true e last = any_of (suc n) p n (omega arith) last
    go false false e last =
        (any_false (suc n) p).1 (λ j h. elim (dec_lt j n) [
          | yes before ↦ (any_false n p).0 e j before
          | no after ↦ ap p {y = n} (omega arith) ∙ last
        ])

-- ---- a loop that stops at the first place at which the test passes

module _ (p : ℕ → Bool) where
  -- before the first place none has passed
  pub any_start : any 0 p ≡ false
  any_start = (any_false 0 p).1 (λ j b. absurd (omega arith))

  module _ (i : ℕ) where
    -- a place more at which the test fails
    pub any_on : any i p ≡ false → p i ≡ false → any (i + 1) p ≡ false
    any_on before fails = rw (add-one i) (any_suc i p ∙ rw (before, fails))

    module _ (n : ℕ) where
      -- a place at which it passes
      pub any_here : i < n → p i ≡ true → true ≡ any n p
      any_here inside holds = sym (any_of n p i inside holds)

      -- behind the last place none has passed
      pub any_end : i ≤ n → n ≤ i → any i p ≡ false → false ≡ any n p
      any_end within past none =
          let all : i ≡ n = omega arith in
          sym (rw all at none)
