-- The level (02, card 3): what its test says, which levels pass it, how many of its bytes have to be read, and that no rounds
-- are enough for none.
-- Assumes nothing.
use Prim.Native.Nat.{ℕ, ◌^◌, ◌≤◌}
use mathlib.Core.Path.{◌≡◌}
use mathlib.Core.Logic.{◌↔◌, ◌⊎◌, inl, inr}
use mathlib.Core.Bool.{true, false, not, ◌||◌, or_assoc}
use mathlib.Core.List.{List}
use native.Mathlib.Decide.{dec_le}
use native.Mathlib.Nat.{pow-zero}
use native.Mathlib.Omega.{arith}
use lib.Dec.{eqb, ltb}
use lib.ListN.{length, take}
use lib.Pow.{pow-lt}
use lib.Seq.{length-take-le, take_all}
use borrow.Author.Tests.{le-ltb, lt-leb, ltb-false}
use Rattle.rules.specs.Says.{Says}
use Rattle.rules.proofs.Says.{says_equal, says_less, says_not, says_or}
use Rattle.sigma.proofs.Calculus.{both_fail, says_passes}
use Rattle.runs.specs.Level.{bad_level, level_of, strong_enough, Refusal25}

-- 25: not exactly one byte, or a byte that is not from 1 to 64
pub says_bad_level : (level : List ℕ) → Says (bad_level level) (Refusal25 level)
unfolding bad_level
says_bad_level level =
    simp or_assoc
    (says_or (says_not (says_equal (length level) 1)) (says_or (says_less (level_of level) 1) (says_less 64 (level_of level))))

-- not 25: one byte from 1 to 64
pub level_passes : (level : List ℕ)
    → (bad_level level ≡ false) ↔ ((length level ≡ 1) × (1 ≤ level_of level) × (level_of level ≤ 64))
unfolding bad_level
level_passes level =
    let other = not (eqb (length level) 1) in
    let low = ltb (level_of level) 1 in
    let high = ltb 64 (level_of level) in
    let first = both_fail (other || low) high in
    let second = both_fail other low in
    let one = says_passes (says_equal (length level) 1) in (
      λ e.
          let (a, small) = first.0 e in
          let (b, some) = second.0 a in
          (one.0 b, ltb-false (level_of level) 1 some, ltb-false 64 (level_of level) small),
      λ (size, some, small). first.1 (second.1 (one.1 size, le-ltb (level_of level) 1 some), le-ltb 64 (level_of level) small),
    )

-- a level cut to its first n bytes, two or more, is refused where the whole is, and is the whole where it is not
pub level_cut : (n : ℕ) → 2 ≤ n → (level : List ℕ)
    → (take n level ≡ level) ⊎ ((bad_level (take n level) ≡ true) × (bad_level level ≡ true))
level_cut n enough level = elim (dec_le (length level) n) [
  | yes short ↦ inl (take_all n level short)
  | no long ↦
      let size = length-take-le n level (omega arith) in
      inr (
        (says_bad_level (take n level)).complete (inl (λ (one : length (take n level) ≡ 1). omega arith)),
        (says_bad_level level).complete (inl (λ (one : length level ≡ 1). omega arith)),
      )
]

-- no rounds are enough for no level from 1 on
pub none_weak : (challenges w : ℕ) → 1 ≤ w → strong_enough challenges 0 w ≡ false
unfolding strong_enough
none_weak challenges w some =
    lt-leb (2 ^ w) (challenges ^ 0) (omega (arith, pow-zero challenges, pow-zero 2, pow-lt {i = 0} {j = w} some))
