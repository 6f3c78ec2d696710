-- Which numbers the search for a divisor tries one after the other, and that it leaves out none that is the first divisor.
-- Assumes nothing.
use mathlib.Core.Path.{◌≡◌, sym, subst}
use mathlib.Core.Logic.{◌≢◌, inl, inr}
use Prim.Native.Nat.{ℕ, suc, ◌+◌, ◌*◌, ◌/◌, ◌%◌, ◌≤◌, ◌<◌, ◌∣◌}
use native.Mathlib.Nat.{dvd_trans, dvd-zero, dvd_of_mod-eq-zero, emod_pos_of_not-dvd, eq-zero-or-pos, le-div_iff_mul-le}
use native.Mathlib.Decide.{ℕ_discrete}
use native.Mathlib.Omega.{arith}
use Rattle.numbers.proofs.Divisors.{no_divisor_next, no_divisor_above_root, no_divisor_above}
use Rattle.modular.specs.Divisor.{Candidate}

-- the search begins at 2
pub candidate_two : (order : ℕ) → Candidate order 2
candidate_two order = record {
  large = omega arith;
  odd = λ above. absurd (omega arith);
  none = λ e large below. absurd (omega arith);
}

module _ (order d : ℕ) (c : Candidate order d) (fails : ¬ (d ∣ order)) where
  -- it may go on at an odd number behind d, where nothing between them divides ℓ
  next_at : (r : ℕ) → d < r → r % 2 ≡ 1 → ((e : ℕ) → d < e → e < r → ¬ (e ∣ order)) → Candidate order r
  next_at r later odd between = record {
    large = omega (arith, c.large);
    odd = λ above. odd;
    none = no_divisor_next order d r c.none fails between;
  }

  -- a number that a smaller one than d divides does not divide ℓ
  left_out : (k e : ℕ) → 2 ≤ k → k < d → e % k ≡ 0 → ¬ (e ∣ order)
  left_out k e large below multiple whole = c.none k large below (dvd_trans k (dvd_of_mod-eq-zero k multiple) whole)

  -- from ℓ on it may go on anywhere
  pub next_beyond : (r : ℕ) → order ≤ d → d < r → r % 2 ≡ 1 → Candidate order r
  next_beyond r past later odd = elim (eq-zero-or-pos order) [
    | inl none ↦ absurd (fails (subst (λ (n : ℕ). d ∣ n) (sym none) (dvd-zero d)))
    | inr some ↦ next_at r later odd (λ e after below. no_divisor_above order d some past e after)
  ]

  -- above the square root it may go on at ℓ
  pub next_order : d < order → order / d < d → Candidate order order
  next_order before above =
      let some : 0 < d = omega (arith, c.large) in
      let tried = no_divisor_next order d (suc d) c.none fails (λ e after below. absurd (omega arith)) in
      let odd = emod_pos_of_not-dvd 2 (tried 2 (omega arith) (omega (arith, c.large))) in
      next_at order before (omega arith) (no_divisor_above_root order d c.none some above)

  -- 3 comes after 2
  pub next_three : d ≡ 2 → Candidate order 3
  next_three two = next_at 3 (omega arith) (omega arith) (λ e after below. absurd (omega arith))

  -- one more than a multiple of 6 is followed by an even number, a multiple of 3 and an even number
  pub next_by_four : d % 6 ≡ 1 → Candidate order (d + 4)
  next_by_four one = next_at (d + 4) (omega arith) (omega arith) (λ e after below. elim (ℕ_discrete e (d + 2)) [
    | yes middle ↦ left_out 3 e (omega arith) (omega (arith, c.large)) (omega arith)
    | no beside ↦ left_out 2 e (omega arith) (omega (arith, c.large)) (omega arith)
  ])

  -- an odd number is followed by an even one
  pub next_by_two : d ≢ 2 → Candidate order (d + 2)
  next_by_two other =
      let above : 2 < d = omega (arith, c.large) in
      let odd = c.odd above in
      next_at (d + 2) (omega arith) (omega arith) (λ e after below. left_out 2 e (omega arith) above (omega arith))

-- up to the square root of ℓ the next number fits 32 bits
pub next_fits : (order d : ℕ) → Candidate order d → order < 4294967296 → d ≤ order / d → d + 4 < 4294967296
next_fits order d c fits most =
    let half : 2 * d ≤ order = (le-div_iff_mul-le {k = d} {x = 2} (omega (arith, c.large))).0 (omega (arith, c.large)) in
    omega arith
