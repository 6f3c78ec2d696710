-- The lower one of two refusals' numbers.
-- Assumes nothing.
use Prim.Native.Nat.{◌<◌, ◌≤◌}
use mathlib.Core.Path.{◌≡◌}
use native.Mathlib.Omega.{arith}
use borrow.Author.Tests.{ne_eqb, lt-ltb, le-ltb}
use Rattle.rules.proofs.Either.{lower_of}
use Rattle.refusals.specs.declared.Refusal.{Refusal}
use Rattle.refusals.specs.Number.{number}
use Rattle.refusals.proofs.Positive.{number_positive}

module _ (one other : Refusal) where
  -- the second is lower
  pub second_lower : number other < number one → number other ≡ lower_of (number one) (number other)
  unfolding lower_of
  second_lower less =
      simp (
        ne_eqb (number one) 0 (λ e. omega (arith, e, number_positive one)),
        ne_eqb (number other) 0 (λ e. omega (arith, e, number_positive other)),
        lt-ltb (number other) (number one) less,
      )

  -- it is not
  pub first_lower : number one ≤ number other → number one ≡ lower_of (number one) (number other)
  unfolding lower_of
  first_lower more =
      simp (
        ne_eqb (number one) 0 (λ e. omega (arith, e, number_positive one)),
        ne_eqb (number other) 0 (λ e. omega (arith, e, number_positive other)),
        le-ltb (number other) (number one) more,
      )

-- a number beside none
pub lower_alone : (refusal : Refusal) → number refusal ≡ lower_of (number refusal) 0
unfolding lower_of
lower_alone refusal = simp (ne_eqb (number refusal) 0 (λ e. omega (arith, e, number_positive refusal)))
