-- Laws of powers, and of powers modulo m whose exponents count only modulo q.
-- Assumes nothing.
use mathlib.Core.Path.{◌≡◌, sym, ◌∙◌, ap, ap₂}
use Prim.Native.Nat.{ℕ, zero, suc, ◌-◌, ◌*◌, ◌/◌, ◌%◌, ◌^◌, ◌≤◌}
use native.Mathlib.Nat.{mul-zero, mul-suc, mul-one, one-mul, mul_comm, mul-mul-mul_comm, pow-zero, pow-suc, pow-succ', mod-add-div}
use native.Mathlib.Omega.{arith}
use lib.Pow.{pow-add}
use Rattle.numbers.specs.Congruence.{Cong}
use Rattle.numbers.specs.Inverse.{Inverses}
use Rattle.numbers.proofs.Congruence.{cong_refl, cong_sym, ◌then◌, cong_of_equal, cong_mul, cong_pow, cong_one}

-- the first power is the number itself
pub pow_one : (a : ℕ) → a ^ 1 ≡ a
pow_one a = pow-suc a 0 ∙ ap (λ (x : ℕ). x * a) (pow-zero a) ∙ one-mul a

-- every power of 1 is 1
pub one_pow : (n : ℕ) → 1 ^ n ≡ 1
one_pow zero = pow-zero 1
one_pow (suc n) = pow-suc 1 n ∙ mul-one (1 ^ n) ∙ one_pow n

-- a power of a power multiplies the exponents
pub pow_mul : (a i j : ℕ) → a ^ (i * j) ≡ (a ^ i) ^ j
pow_mul a i zero = ap (λ (x : ℕ). a ^ x) (mul-zero i) ∙ pow-zero a ∙ sym (pow-zero (a ^ i))
pow_mul a i (suc j) =
    ap (λ (x : ℕ). a ^ x) (mul-suc i j) ∙ pow-add a (i * j) i ∙ ap (λ (x : ℕ). x * a ^ i) (pow_mul a i j) ∙ sym (pow-suc (a ^ i) j)

-- a power of a power, the exponents exchanged
pub pow_swap : (a i j : ℕ) → (a ^ i) ^ j ≡ (a ^ j) ^ i
pow_swap a i j = sym (pow_mul a i j) ∙ ap (λ (k : ℕ). a ^ k) (mul_comm i j) ∙ pow_mul a j i

-- a power of a product is the product of the powers
pub mul_pow : (a b n : ℕ) → (a * b) ^ n ≡ a ^ n * b ^ n
mul_pow a b zero = pow-zero (a * b) ∙ sym (ap₂ (λ (x y : ℕ). x * y) (pow-zero a) (pow-zero b))
mul_pow a b (suc n) =
    pow-suc (a * b) n ∙ ap (λ (x : ℕ). x * (a * b)) (mul_pow a b n) ∙ mul-mul-mul_comm (a ^ n) (b ^ n) a b
    ∙ sym (ap₂ (λ (x y : ℕ). x * y) (pow-suc a n) (pow-suc b n))

-- a power by the quotient and the remainder of its exponent
pow_split : (a q k : ℕ) → a ^ k ≡ a ^ (k % q) * (a ^ q) ^ (k / q)
pow_split a q k =
    ap (λ (x : ℕ). a ^ x) (sym (mod-add-div k q)) ∙ pow-add a (k % q) (q * (k / q))
    ∙ ap (λ (x : ℕ). a ^ (k % q) * x) (pow_mul a q (k / q))

-- a power by the low bit of its exponent and the square of its base
pub pow_halve : (a e : ℕ) → a ^ e ≡ a ^ (e % 2) * (a * a) ^ (e / 2)
pow_halve a e =
    let square : a ^ 2 ≡ a * a = pow-suc a 1 ∙ ap (λ (x : ℕ). x * a) (pow_one a) in
    pow_split a 2 e ∙ ap (λ (x : ℕ). a ^ (e % 2) * x ^ (e / 2)) square

-- where a ^ q is 1 modulo m, an exponent may be reduced modulo q
pub cong_pow_mod : (m q a : ℕ) → a ^ q % m ≡ 1 → (k : ℕ) → Cong m (a ^ (k % q)) (a ^ k)
cong_pow_mod m q a e k =
    let whole : Cong m ((a ^ q) ^ (k / q)) 1 = cong_pow (cong_one m (a ^ q) e) (k / q) then cong_of_equal m (one_pow (k / q)) in
    cong_of_equal m (sym (mul-one (a ^ (k % q)))) then cong_mul (cong_refl m (a ^ (k % q))) (cong_sym whole)
    then cong_of_equal m (sym (pow_split a q k))

-- where a ^ q is 1 modulo m, exponents congruent modulo q give congruent powers
pub cong_pow_exponent : (m q a : ℕ) → a ^ q % m ≡ 1 → (i j : ℕ) → Cong q i j → Cong m (a ^ i) (a ^ j)
cong_pow_exponent m q a e i j h =
    cong_sym (cong_pow_mod m q a e i) then cong_of_equal m (ap (λ (x : ℕ). a ^ x) h.same) then cong_pow_mod m q a e j

-- where v ^ q is 1 modulo m, the power before it is an inverse of v
pub order_inverses : (m q v : ℕ) → 1 ≤ q → v ^ q % m ≡ 1 → Inverses m v (v ^ (q - 1))
order_inverses m q v l e =
    let whole : suc (q - 1) ≡ q = omega arith in
    record { one = cong_of_equal m (sym (pow-succ' v (q - 1)) ∙ ap (λ (x : ℕ). v ^ x) whole) then cong_one m (v ^ q) e }
