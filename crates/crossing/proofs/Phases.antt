-- A state by its number: each number below four has its own state, and every other number the last one. A state's place in its enum is
-- its number.
-- Assumes nothing.
use Prim.Native.Nat.{ℕ, zero, suc, ◌≤◌, ◌<◌}
use mathlib.Core.Path.{◌≡◌, refl}
use mathlib.Core.Logic.{◌≢◌}
use native.Mathlib.Omega.{arith}
use borrow.Author.Tests.{ne_eqb}
use denote.Enum.Declared.{tag_of}
use Rattle.types.specs.contracts.ProverPhase as peggy
use Rattle.types.specs.contracts.VerifierPhase as vic
use Rattle.types.specs.declared.ProverPhase.{ProverPhase}
use Rattle.types.specs.declared.ProverPhase.TheVariants.{New, Committed, Answered, Dropped}
use Rattle.types.specs.declared.VerifierPhase.{VerifierPhase}
use Rattle.types.specs.declared.VerifierPhase.TheVariants.{Waiting, Holding, Asked, Judged}
use Rattle.runs.specs.Prover.{prover_state}
use Rattle.runs.specs.Verifier.{verifier_state}
use Rattle.crossing.specs.OfFour.{of_four}

module _ {A : Type 0} (a b c d : A) where
  -- a number that is none of the first three has the last
  pub of_four_last : (n : ℕ) → n ≢ 0 → n ≢ 1 → n ≢ 2 → of_four a b c d n ≡ d
  unfolding of_four
  of_four_last n x y z = rw (ne_eqb n 0 x, ne_eqb n 1 y, ne_eqb n 2 z)

  -- so has every number from three on
  pub of_four_beyond : {n : ℕ} → 3 ≤ n → of_four a b c d n ≡ d
  of_four_beyond {n} beyond = of_four_last n (λ e. omega arith) (λ e. omega arith) (λ e. omega arith)

  -- a numbering of the four from 0 gives each number below four back
  pub of_four_number : (number : A → ℕ) → number a ≡ 0 → number b ≡ 1 → number c ≡ 2 → number d ≡ 3
      → (n : ℕ) → n < 4 → number (of_four a b c d n) ≡ n
  unfolding of_four
  of_four_number number x y z w zero few = x
  of_four_number number x y z w (suc zero) few = y
  of_four_number number x y z w (suc (suc zero)) few = z
  of_four_number number x y z w (suc (suc (suc zero))) few = w
  of_four_number number x y z w (suc (suc (suc (suc n)))) few = absurd (omega arith)

-- each state of Peggy's session stands in its enum at the place that is its number
pub prover_placed : (phase : ProverPhase) → tag_of peggy.the_type phase ≡ prover_state phase
unfolding prover_state
prover_placed New = refl
prover_placed Committed = refl
prover_placed Answered = refl
prover_placed Dropped = refl

-- so does each state of Vic's
pub verifier_placed : (phase : VerifierPhase) → tag_of vic.the_type phase ≡ verifier_state phase
unfolding verifier_state
verifier_placed Waiting = refl
verifier_placed Holding = refl
verifier_placed Asked = refl
verifier_placed Judged = refl
