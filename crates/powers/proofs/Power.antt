-- Squaring and multiplying, low bit first: each turn keeps p · s ^ e modulo m, from the power asked for to the answer.
-- Assumes nothing.
use mathlib.Core.Path.{◌≡◌, sym, ◌∙◌, ap}
use mathlib.Core.Logic.{◌≢◌}
use Prim.Native.Nat.{ℕ, ◌*◌, ◌/◌, ◌%◌, ◌^◌, ◌≤◌, ◌<◌}
use native.Mathlib.Nat.{mod-lt, mod-eq_of_lt, mul_assoc, mul-one, one-mul, pow-zero}
use native.Mathlib.Omega.{arith}
use Rattle.numbers.proofs.Congruence.{cong_refl, cong_mod, cong_mul, cong_pow, mod_mul_left}
use Rattle.numbers.proofs.Powers.{pow_halve, pow_one}

-- the answer p so far times s by what is left of the exponent is the whole power, modulo m
pub record Kept (m whole p s e : ℕ) : Type 0 where
  pub below : p < m
  pub same : p * s ^ e % m ≡ whole

-- at the start nothing is multiplied yet
pub kept_start : (m b e : ℕ) {p : ℕ} → 0 < m → p ≡ 1 % m → Kept m (b ^ e % m) p b e
kept_start m b e some is_one =
    rw is_one (record { below = mod-lt 1 some; same = mod_mul_left m 1 _ ∙ ap (λ (x : ℕ). x % m) (one-mul _) })

-- a turn: the square takes the place of the base, and half of the exponent is left
turn : (m p s e : ℕ) → p * s ^ (e % 2) * (s * s % m) ^ (e / 2) % m ≡ p * s ^ e % m
turn m p s e =
    let whole : p * s ^ (e % 2) * (s * s) ^ (e / 2) ≡ p * s ^ e = mul_assoc p _ _ ∙ ap (λ (x : ℕ). p * x) (sym (pow_halve s e)) in
    (cong_mul (cong_refl m (p * s ^ (e % 2))) (cong_pow (cong_mod m (s * s)) (e / 2))).same ∙ ap (λ (x : ℕ). x % m) whole

module _ {m whole p s e : ℕ} (kept : Kept m whole p s e) where
  -- a turn at an odd exponent, which multiplies the answer by the base
  pub kept_odd : {p' s' : ℕ} → e % 2 ≡ 1 → p' ≡ p * s % m → s' ≡ s * s % m → Kept m whole p' s' (e / 2)
  kept_odd odd times squared =
      let one_more : s ^ (e % 2) ≡ s = ap (λ (x : ℕ). s ^ x) odd ∙ pow_one s in
      rw (times, squared) (record {
        below = mod-lt _ (omega (arith, kept.below));
        same = mod_mul_left m (p * s) _ ∙ (rw one_more at (turn m p s e)) ∙ kept.same;
      })

  -- a turn at an even exponent, which leaves the answer as it is
  pub kept_even : {p' s' : ℕ} → e % 2 ≢ 1 → p' ≡ p → s' ≡ s * s % m → Kept m whole p' s' (e / 2)
  kept_even even as_it_is squared =
      let none_more : s ^ (e % 2) ≡ 1 = ap (λ (x : ℕ). s ^ x) (omega arith) ∙ pow-zero s in
      rw (as_it_is, squared)
      (record { below = kept.below; same = (rw (none_more, mul-one) at (turn m p s e)) ∙ kept.same })

  -- at the end no exponent is left, and the answer is the power
  pub kept_end : e ≤ 0 → p ≡ whole
  kept_end none =
      let zero_left : e ≡ 0 = omega arith in
      sym (mod-eq_of_lt kept.below) ∙ (rw (zero_left, pow-zero, mul-one) at kept.same)
