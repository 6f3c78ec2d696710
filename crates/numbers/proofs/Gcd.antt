-- Euclid's algorithm gives the greatest common divisor, its steps, and Bezout's identity.
-- Assumes nothing.
use mathlib.Core.Path.{◌≡◌, refl, sym, ◌∙◌, ap}
use mathlib.Core.Bool.{Bool, true, false}
use mathlib.Core.Logic.{inl, inr, ◌↔◌}
use Prim.Native.Nat.{ℕ, zero, suc, ◌+◌, ◌*◌, ◌/◌, ◌%◌, ◌<◌, ◌∣◌}
use native.Mathlib.Nat.{mod-lt, mod-add-div, eq-zero-or-pos, le_dest, le_trans, le-add_left, le-add_right, le-mul_of_pos_right}
use native.Mathlib.Nat.{dvd_refl, dvd-zero, dvd_antisymm, dvd-mod_iff, eq-one_of_dvd-one}
use native.Mathlib.Omega.{arith}
use lib.Dec.{eqb}
use borrow.Author.Tests.{eqb-true, eqb-false}
use Rattle.numbers.specs.Gcd.{euclid, gcd, IsGcd}

-- every number is the greatest common divisor of itself and 0
is_gcd_zero : (a : ℕ) → IsGcd a 0 a
is_gcd_zero a = record { left = dvd_refl a; right = dvd-zero a; greatest = λ d h k. h }

-- a greatest common divisor of b and the remainder of a by b is one of a and b
is_gcd_step : (a b g : ℕ) → IsGcd b (a % b) g → IsGcd a b g
is_gcd_step a b g h = record {
  left = (dvd-mod_iff g h.left).0 h.right;
  right = h.left;
  greatest = λ d p q. h.greatest d q ((dvd-mod_iff d q).1 p);
}

-- with more steps than its second number, the algorithm gives the greatest common divisor
euclid_is_gcd : (n a b : ℕ) → b < n → IsGcd a b (euclid n a b)
unfolding euclid
euclid_is_gcd zero a b h = absurd (omega arith)
euclid_is_gcd (suc n) a b h = go (euclid_is_gcd n b (a % b)) (eqb b 0) refl
  where
    go : (a % b < n → IsGcd b (a % b) (euclid n b (a % b))) → (t : Bool) → eqb b 0 ≡ t
        → IsGcd a b (elim t [ true ↦ a | false ↦ euclid n b (a % b) ])
    go rest true e = rw (eqb-true b 0 e) (is_gcd_zero a)
    go rest false e =
        let positive : 0 < b = elim (eq-zero-or-pos b) [ inl none ↦ absurd (eqb-false b 0 e none) | inr some ↦ some ] in
        is_gcd_step a b _ (rest (omega (arith, mod-lt a positive)))

-- gcd is the greatest common divisor
pub gcd_is_gcd : (a b : ℕ) → IsGcd a b (gcd a b)
unfolding gcd
gcd_is_gcd a b = euclid_is_gcd (suc b) a b (omega arith)

-- two numbers have one greatest common divisor
pub is_gcd_unique : {a b g h : ℕ} → IsGcd a b g → IsGcd a b h → g ≡ h
is_gcd_unique {a} {b} {g} {h} p q = dvd_antisymm (q.greatest g p.left p.right) (p.greatest h q.left q.right)

-- what is the greatest common divisor is what gcd gives
pub gcd_is : {a b g : ℕ} → IsGcd a b g → gcd a b ≡ g
gcd_is {a} {b} p = is_gcd_unique (gcd_is_gcd a b) p

-- the order of the two numbers does not count
pub gcd_comm : (a b : ℕ) → gcd a b ≡ gcd b a
gcd_comm a b =
    let p : IsGcd b a (gcd b a) = gcd_is_gcd b a in
    gcd_is (record { left = p.right; right = p.left; greatest = λ d h k. p.greatest d k h })

-- Euclid's algorithm ends at 0
pub gcd_zero : (a : ℕ) → gcd a 0 ≡ a
gcd_zero a = gcd_is (is_gcd_zero a)

-- a step of Euclid's algorithm
pub gcd_step : (a b : ℕ) → gcd a b ≡ gcd b (a % b)
gcd_step a b = gcd_is (is_gcd_step a b _ (gcd_is_gcd b (a % b)))

-- the greatest common divisor is 1 exactly if every common divisor is
pub gcd_one : (a b : ℕ) → (gcd a b ≡ 1) ↔ ((d : ℕ) → d ∣ a → d ∣ b → d ≡ 1)
gcd_one a b = (
  (λ e d h k. eq-one_of_dvd-one (rw e at ((gcd_is_gcd a b).greatest d h k))),
  (λ only. only (gcd a b) (gcd_is_gcd a b).left (gcd_is_gcd a b).right),
)

-- Bezout's identity with the parts of the two numbers exchanged
swap : (a b g x y : ℕ) → 0 < a → 0 < b → b * x ≡ a * y + g → (u : ℕ) × (v : ℕ) × (a * u ≡ b * v + g)
swap a b g x y p q e =
    let (u, up) = le_dest (le_trans (le-add_left y x) (le-mul_of_pos_right (x + y) q)) in
    let (v, down) = le_dest (le_trans (le-add_right x y) (le-mul_of_pos_right (x + y) p)) in
    (u, v, omega (arith, ap (λ (z : ℕ). a * z) up, ap (λ (z : ℕ). b * z) down))

-- Bezout's identity after a step of Euclid's algorithm
bezout_step : (a b g x y : ℕ) → b * x ≡ a % b * y + g → b * (x + a / b * y) ≡ a * y + g
bezout_step a b g x y e = omega (arith, ap (λ (z : ℕ). z * y) (mod-add-div a b))

-- Bezout's identity over Euclid's algorithm
euclid_bezout : (n a b : ℕ) → b < n → 0 < a → (x : ℕ) × (y : ℕ) × (a * x ≡ b * y + gcd a b)
euclid_bezout zero a b h p = absurd (omega arith)
euclid_bezout (suc n) a b h p = elim (eq-zero-or-pos b) [
  | inl none ↦ (1, 0, rw none (omega (arith, gcd_zero a)))
  | inr some ↦
      let (x, y, e) = euclid_bezout n b (a % b) (omega (arith, mod-lt a some)) some in
      swap a b (gcd a b) (x + a / b * y) y p some (bezout_step a b _ x y (e ∙ ap (λ (g : ℕ). a % b * y + g) (sym (gcd_step a b))))
]

-- Bezout's identity in natural numbers: a multiple of a exceeds one of b by the greatest common divisor
pub bezout : (a b : ℕ) → 0 < a → (x : ℕ) × (y : ℕ) × (a * x ≡ b * y + gcd a b)
bezout a b p = euclid_bezout (suc b) a b (omega arith) p
