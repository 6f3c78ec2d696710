-- The nearest remembered round with the same commitment and another challenge: what the search finds, and by how many back it stands.
-- Assumes nothing.
use Prim.Native.Nat.{ℕ, suc, ◌<◌, ◌≤◌}
use mathlib.Core.Path.{◌≡◌, refl, ap}
use mathlib.Core.Logic.{◌↔◌, ◌≢◌}
use mathlib.Core.Bool.{cond}
use mathlib.Core.List.{List}
use native.Mathlib.Decide.{dec_lt}
use native.Mathlib.Omega.{arith}
use borrow.Author.Tests.{lt-ltb, le-ltb}
use lib.Dec.{ltb}
use lib.ListN.{get_or, length}
use Rattle.types.specs.declared.Header.{Header}
use Rattle.types.specs.declared.Round.{Round}
use Rattle.rules.specs.Says.{Says}
use Rattle.rules.proofs.Says.{says_and, says_equal, says_not}
use Rattle.formats.specs.Sheet.{instance_of}
use Rattle.sigma.specs.Reads.{Agree}
use Rattle.sigma.proofs.Calculus.{says_first, says_nowhere}
use Rattle.sigma.proofs.Comparison.{says_agree}
use Rattle.watches.specs.Watch.{nearest, reuses}
use Rattle.watches.specs.Window.{Nearest, Reuses, no_round, remembered_at, window}
use Rattle.watches.specs.declared.Watch.{Watch}
use Rattle.watches.proofs.Window.{length_window, window_at}

-- ---- a place below n counted from 1, and 0 for one that is not

-- it is the place
pub counted_at : (k n b : ℕ) → (cond (ltb k n) (suc k) 0 ≡ suc b) ↔ ((b < n) × (k ≡ b))
counted_at k n b = elim (dec_lt k n) [
  | yes below ↦ rw (lt-ltb k n below) (λ e. (omega arith, omega arith), λ (inside, e). ap suc e)
  | no beyond ↦ rw (le-ltb k n (omega arith)) (λ e. absurd (omega arith), λ (inside, e). absurd (omega arith))
]

-- there is none
pub counted_none : (k n : ℕ) → (cond (ltb k n) (suc k) 0 ≡ 0) ↔ (n ≤ k)
counted_none k n = elim (dec_lt k n) [
  | yes below ↦ rw (lt-ltb k n below) (λ e. absurd (omega arith), λ past. absurd (omega arith))
  | no beyond ↦ rw (le-ltb k n (omega arith)) (λ e. omega arith, λ past. refl)
]

-- ---- the search

-- the test for the same commitment and another challenge
pub says_reuses : (h : Header) (round other : Round)
    → Says (reuses h round other) (Agree h.rows other.commitment round.commitment × (other.challenge ≢ round.challenge))
unfolding reuses
says_reuses h round other =
    says_and (says_agree h.rows other.commitment round.commitment) (says_not (says_equal other.challenge round.challenge))

module _ (sheet : List ℕ) (w : Watch) (round : Round) where
  -- of a remembered round
  says_window : (i : ℕ) → i < w.count
      → Says (reuses (instance_of sheet).header round (remembered_at w i)) (Reuses sheet round (get_or (window w) i no_round))
  says_window i inside = rw (window_at w i inside) (says_reuses (instance_of sheet).header round (remembered_at w i))

  -- the search ends at the nearest that has
  pub nearest_is : (b : ℕ)
      → ((b < w.count) × (nearest (instance_of sheet).header w round ≡ b)) ↔ Nearest sheet (window w) round b
  unfolding nearest
  nearest_is b =
      rw (length_window w) (says_first w.count _ (λ i. Reuses sheet round (get_or (window w) i no_round)) says_window b)

  -- and past them exactly if none has
  pub nearest_none : (w.count ≤ nearest (instance_of sheet).header w round)
      ↔ ((i : ℕ) → i < length (window w) → ¬ Reuses sheet round (get_or (window w) i no_round))
  unfolding nearest
  nearest_none = rw (length_window w) (says_nowhere w.count _ (λ i. Reuses sheet round (get_or (window w) i no_round)) says_window)
