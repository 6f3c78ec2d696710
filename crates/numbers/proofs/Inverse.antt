-- Laws of inverses modulo m: which numbers have one, that they have only one, and that `inverse` finds it.
-- Assumes nothing.
use mathlib.Core.Path.{◌≡◌, sym, ◌∙◌, ap}
use mathlib.Core.Bool.{Bool, true, true≢false}
use mathlib.Core.Logic.{inl, inr}
use Prim.Native.Nat.{ℕ, ◌*◌, ◌%◌, ◌^◌, ◌<◌, ◌∣◌}
use native.Mathlib.Nat.{add_comm, mul_comm, mul-mul-mul_comm, mod-lt, mod-one, eq-zero-or-pos}
use native.Mathlib.Nat.{dvd-mod_iff, dvd-mul_left_of_dvd, dvd-mul_right_of_dvd, eq-one_of_dvd-one}
use native.Mathlib.Decide.{dec_lt}
use native.Mathlib.Omega.{arith}
use lib.Dec.{eqb}
use borrow.Author.Tests.{eqb-true, eq-eqb}
use Rattle.numbers.specs.Search.{find}
use Rattle.numbers.specs.Congruence.{Cong}
use Rattle.numbers.specs.Gcd.{gcd}
use Rattle.numbers.specs.Inverse.{inverse, Inverses}
use Rattle.numbers.proofs.Search.{find_holds, find_first}
use Rattle.numbers.proofs.Congruence.{cong_refl, cong_sym, ◌then◌, cong_of_equal, cong_mod, cong_one, cong_below}
use Rattle.numbers.proofs.Congruence.{cong_add_multiple, cong_mul, cong_pow, cong_mul_cancel, mod_is_one, mod_mul_right}
use Rattle.numbers.proofs.Powers.{mul_pow, one_pow}
use Rattle.numbers.proofs.Gcd.{gcd_one, gcd_comm, gcd_zero, bezout}

-- an inverse is invertible
pub inverses_sym : {m v w : ℕ} → Inverses m v w → Inverses m w v
inverses_sym {m} {v} {w} h = record { one = cong_of_equal m (mul_comm w v) then h.one }

-- congruent numbers have the same inverses
pub inverses_cong : {m v v' w w' : ℕ} → Cong m v v' → Cong m w w' → Inverses m v w → Inverses m v' w'
inverses_cong p q h = record { one = cong_mul (cong_sym p) (cong_sym q) then h.one }

-- the product of the inverses inverts the product
pub inverses_mul : {m v v' w w' : ℕ} → Inverses m v w → Inverses m v' w' → Inverses m (v * v') (w * w')
inverses_mul {m} {v} {v'} {w} {w'} g h =
    record { one = cong_of_equal m (mul-mul-mul_comm v v' w w') then cong_mul g.one h.one }

-- the power of the inverse inverts the power
pub inverses_pow : {m v w : ℕ} → Inverses m v w → (n : ℕ) → Inverses m (v ^ n) (w ^ n)
inverses_pow {m} {v} {w} h n =
    record { one = cong_of_equal m (sym (mul_pow v w n)) then cong_pow h.one n then cong_of_equal m (one_pow n) }

-- inverses of the same number are congruent
pub inverses_unique : {m v w w' : ℕ} → Inverses m v w → Inverses m v w' → Cong m w w'
inverses_unique {m} {v} {w} {w'} g h = cong_mul_cancel g w w' (g.one then cong_sym h.one)

-- a number that has an inverse has no divisor in common with the modulus
pub inverses_coprime : {m v w : ℕ} → Inverses m v w → gcd v m ≡ 1
inverses_coprime {m} {v} {w} h = (gcd_one v m).1 only
  where
    only : (d : ℕ) → d ∣ v → d ∣ m → d ≡ 1
    only d p q =
        let rest : d ∣ v * w % m = (dvd-mod_iff d q).1 (dvd-mul_right_of_dvd d p w) in
        eq-one_of_dvd-one ((dvd-mod_iff d q).0 (rw h.one.same at rest))

-- a number that has no divisor in common with the modulus has an inverse
pub coprime_inverses : (m v : ℕ) → gcd v m ≡ 1 → (w : ℕ) × Inverses m v w
coprime_inverses m v e = elim (eq-zero-or-pos v) [
  | inl none ↦
      let one_modulus : m ≡ 1 = sym (gcd_zero m) ∙ gcd_comm m 0 ∙ ap (λ (x : ℕ). gcd x m) (sym none) ∙ e in
      (0, record { one = rw one_modulus (record { same = mod-one (v * 0) ∙ sym (mod-one 1) }) })
  | inr some ↦
      let (x, y, b) = bezout v m some in
      (x, record { one = cong_of_equal m (b ∙ add_comm (m * y) _) then cong_add_multiple m _ y then cong_of_equal m e })
]

-- where v has an inverse modulo m, the search for one ends below m
search_ends : (m v w : ℕ) → 1 < m → Inverses m v w → inverse m v < m
unfolding inverse
search_ends m v w big h =
    let test : ℕ → Bool = λ x. eqb (v * x % m) 1 in
    let holds : test (w % m) ≡ true = eq-eqb _ 1 (mod_mul_right m v w ∙ mod_is_one big h.one) in
    let below : w % m < m = mod-lt w (omega arith) in
    elim (dec_lt (find test 0 m) m) [
      | yes ends ↦ ends
      | no past ↦ absurd (true≢false (sym holds ∙ find_first test 0 m (w % m) (omega arith) (omega arith)))
    ]

-- where the search for an inverse ends below m, it has found one
search_finds : (m v : ℕ) → inverse m v < m → Inverses m v (inverse m v)
unfolding inverse
search_finds m v ends =
    record { one = cong_one m _ (eqb-true _ 1 (find_holds (λ x. eqb (v * x % m) 1) 0 m (omega arith))) }

-- `inverse` is below the modulus
pub inverse_below : (m v : ℕ) → 1 < m → gcd v m ≡ 1 → inverse m v < m
inverse_below m v big e = let (w, h) = coprime_inverses m v e in search_ends m v w big h

-- `inverse` is an inverse
pub inverse_inverts : (m v : ℕ) → 1 < m → gcd v m ≡ 1 → Inverses m v (inverse m v)
inverse_inverts m v big e = search_finds m v (inverse_below m v big e)

-- inverses of the same number below the modulus are equal
pub inverses_equal : {m v w w' : ℕ} → Inverses m v w → Inverses m v w' → w < m → w' < m → w ≡ w'
inverses_equal g h = cong_below (inverses_unique g h)

-- an inverse below the modulus is what `inverse` gives
pub inverse_is : {m v w : ℕ} → 1 < m → Inverses m v w → w < m → inverse m v ≡ w
inverse_is {m} {v} big h l =
    let e : gcd v m ≡ 1 = inverses_coprime h in
    inverses_equal (inverse_inverts m v big e) h (inverse_below m v big e) l

-- the product, reduced, of two numbers that have no divisor in common with the modulus has none either
pub coprime_mul : (m v w : ℕ) → gcd v m ≡ 1 → gcd w m ≡ 1 → gcd (v * w % m) m ≡ 1
coprime_mul m v w p q =
    let (v', g) = coprime_inverses m v p in
    let (w', h) = coprime_inverses m w q in
    inverses_coprime (inverses_cong (cong_sym (cong_mod m (v * w))) (cong_refl m (v' * w')) (inverses_mul g h))

-- where the product, reduced, has no divisor in common with the modulus, neither number has
pub coprime_factors : (m v w : ℕ) → gcd (v * w % m) m ≡ 1 → (gcd v m ≡ 1) × (gcd w m ≡ 1)
coprime_factors m v w e = (
  (gcd_one v m).1 (λ d p q. only d (dvd-mul_right_of_dvd d p w) q),
  (gcd_one w m).1 (λ d p q. only d (dvd-mul_left_of_dvd d p v) q),
)
  where
    only : (d : ℕ) → d ∣ v * w → d ∣ m → d ≡ 1
    only d p q = (gcd_one (v * w % m) m).0 e d ((dvd-mod_iff d q).1 p) q
