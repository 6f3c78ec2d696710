-- Euclid's algorithm on m and v, with a factor of v kept for each of the two numbers, ends at the inverse of v modulo m, up to
-- its sign.
-- Assumes nothing.
use mathlib.Core.Path.{◌≡◌, sym, ap, ◌∙◌}
use mathlib.Core.Logic.{◌≢◌, ◌⊎◌, inl, inr, ⊎_elim}
use Prim.Native.Nat.{ℕ, zero, suc, ◌+◌, ◌-◌, ◌*◌, ◌/◌, ◌%◌, ◌≤◌, ◌<◌}
use native.Mathlib.Nat.{mod-add-div, mod-eq_of_lt, zero-mod, mul-one, mul_comm}
use native.Mathlib.Omega.{arith}
use Rattle.numbers.specs.Congruence.{Cong}
use Rattle.numbers.specs.Gcd.{gcd}
use Rattle.numbers.specs.Inverse.{inverse}
use Rattle.numbers.proofs.Congruence.{◌then◌, cong_refl, cong_sym, cong_of_equal, cong_add, cong_mul, cong_one}
use Rattle.numbers.proofs.Congruence.{cong_add_cancel, cong_add_multiple}
use Rattle.numbers.proofs.Gcd.{gcd_comm, gcd_step, gcd_zero}
use Rattle.numbers.proofs.Inverse.{inverse_is}

pub record Turn (m v x y s t : ℕ) : Type 0 where
  -- v · s is x and v · t is -y modulo m, or v · s is -x and v · t is y
  pub signs : (Cong m (v * s) x × Cong m (v * t + y) 0) ⊎ (Cong m (v * s + x) 0 × Cong m (v * t) y)
  pub coprime : gcd x y ≡ 1
  -- no factor is above m
  pub whole : s * y + t * x ≡ m
  pub bound : s ≤ m
  pub positive : 0 < x

-- the modulus is congruent to 0, and so are its multiples
multiple : (m k : ℕ) → Cong m (m * k) 0
multiple m k = cong_of_equal m {b = 0 + m * k} (omega arith) then cong_add_multiple m 0 k

-- a factor of a sum is at most the sum
factor_bound : (rest t x : ℕ) {m : ℕ} → rest + t * x ≡ m → 0 < x → t ≤ m
factor_bound rest t zero whole some = absurd (omega arith)
factor_bound rest t (suc x) whole some = omega arith

-- at the start: v · 0 is -m and v · 1 is v
pub turn_start : (m v : ℕ) → 1 < m → gcd v m ≡ 1 → Turn m v m v 0 1
turn_start m v big e = record {
  signs = inr (cong_of_equal m {b = m * 1} (omega arith) then multiple m 1, cong_of_equal m (mul-one v));
  coprime = gcd_comm m v ∙ e;
  whole = omega arith;
  bound = omega arith;
  positive = omega arith;
}

module _ {m v x y s t : ℕ} (turn : Turn m v x y s t) where
  -- the second factor is at most m
  second_bound : t ≤ m
  second_bound = factor_bound (s * y) t x turn.whole turn.positive

  -- the next sum is m too
  next_whole : t * (x % y) + (s + x / y * t) * y ≡ m
  next_whole =
      let split : t * (x % y + y * (x / y)) ≡ t * x = ap (λ (n : ℕ). t * n) (mod-add-div x y) in
      omega (arith, split, turn.whole)

  -- so the next factor is at most m
  pub next_bound : 0 < y → s + x / y * t ≤ m
  next_bound some = factor_bound (t * (x % y)) (s + x / y * t) y next_whole some

  -- from turn to turn: the remainder of x by y has the factor s plus the quotient times t, and the signs change over
  pub turn_step : {next : ℕ} → 0 < y → next ≡ s + x / y * t → Turn m v y (x % y) t next
  turn_step {next} some is_next = rw is_next (record {
    signs = ⊎_elim after_plus after_minus turn.signs;
    coprime = sym (gcd_step x y) ∙ turn.coprime;
    whole = next_whole;
    bound = second_bound;
    positive = some;
  })
    where
      q : ℕ
      q = x / y

      split : x % y + y * q ≡ x
      split = mod-add-div x y

      after_plus : Cong m (v * s) x × Cong m (v * t + y) 0
          → (Cong m (v * t) y × Cong m (v * (s + q * t) + x % y) 0)
          ⊎ (Cong m (v * t + y) 0 × Cong m (v * (s + q * t)) (x % y))
      after_plus (first, second) =
          inr (
            second,
            cong_add_cancel m _ (x % y) (q * y)
                (cong_of_equal m {b = v * s + q * (v * t + y)} (omega arith)
                then cong_add first (cong_mul (cong_refl m q) second)
                then cong_of_equal m {b = x % y + q * y} (omega (arith, split))),
          )

      after_minus : Cong m (v * s + x) 0 × Cong m (v * t) y
          → (Cong m (v * t) y × Cong m (v * (s + q * t) + x % y) 0)
          ⊎ (Cong m (v * t + y) 0 × Cong m (v * (s + q * t)) (x % y))
      after_minus (first, second) =
          inl (
            second,
            cong_of_equal m {b = v * s + q * (v * t) + x % y} (omega arith)
                then cong_add (cong_add (cong_refl m (v * s)) (cong_mul (cong_refl m q) second)) (cong_refl m (x % y))
                then cong_of_equal m {b = v * s + x} (omega (arith, split))
                then first,
          )

  -- ---- at the end y is 0, so x is 1

  module _ (big : 1 < m) where
    -- where v · s is 1, s is the inverse of v
    pub end_plus : v * s % m ≡ 1 → (s ≡ inverse m v) × (s < m)
    end_plus one =
        let below : s < m = omega (arith, turn.bound, apart) in
        (sym (inverse_is big (record { one = cong_one m _ one }) below), below)
      where
        apart : s ≢ m
        apart same =
            let product : v * s ≡ m * v = rw same (mul_comm v m) in
            let none : v * s % m ≡ 0 = (cong_of_equal m product then multiple m v).same ∙ zero-mod m in
            omega arith

    -- else v · s is -1, and what is left of m is the inverse
    pub end_minus : y ≤ 0 → v * s % m ≢ 1 → (m - s ≡ inverse m v) × (m - s < m)
    end_minus none other = ⊎_elim plus minus turn.signs
      where
        last : x ≡ 1
        last = let at_end : y ≡ 0 = omega arith in sym (gcd_zero x) ∙ rw at_end at turn.coprime

        some : (s : ℕ) → Cong m (v * s + 1) 0 → 0 < s
        some zero e =
            let none : (v * 0 + 1) % m ≡ 0 = e.same ∙ zero-mod m in
            let one : (v * 0 + 1) % m ≡ v * 0 + 1 = mod-eq_of_lt (omega arith) in
            absurd (omega arith)
        some (suc s) e = omega arith

        plus : Cong m (v * s) x × Cong m (v * t + y) 0 → (m - s ≡ inverse m v) × (m - s < m)
        plus (first, second) = absurd (other (first.same ∙ ap (λ (n : ℕ). n % m) last ∙ mod-eq_of_lt big))

        minus : Cong m (v * s + x) 0 × Cong m (v * t) y → (m - s ≡ inverse m v) × (m - s < m)
        minus (first, second) =
            let opposite : Cong m (v * s + 1) 0 = rw last at first in
            let rest : m - s + s ≡ m = omega (arith, turn.bound) in
            let whole : v * (m - s) + v * s ≡ m * v = omega (arith, ap (λ (n : ℕ). v * n) rest) in
            let inverts : Cong m (v * (m - s)) 1 =
            cong_add_cancel m _ 1 (v * s)
            (cong_of_equal m whole then multiple m v then cong_sym opposite then cong_of_equal m (omega arith)) in
            let below : m - s < m = omega (arith, some s opposite) in
            (sym (inverse_is big (record { one = inverts }) below), below)
