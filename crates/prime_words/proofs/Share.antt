-- Shares of a number l modulo m: division by a number that has an inverse, as products with the inverse of a multiple of it.
-- Assumes nothing.
use mathlib.Core.Path.{◌≡◌, sym, subst, ◌∙◌}
use Prim.Native.Nat.{ℕ, ◌*◌, ◌/◌, ◌%◌, ◌≤◌, ◌<◌, ◌∣◌}
use native.Mathlib.Nat.{mul_comm, mod-lt, div-mul_cancel, div-le_self, lt_of_le_of_lt}
use native.Mathlib.Omega.{arith}
use Rattle.numbers.specs.Congruence.{Cong}
use Rattle.numbers.specs.Inverse.{Inverses}
use Rattle.numbers.proofs.Congruence.{cong_refl, ◌then◌, cong_of_equal, cong_mod, cong_one, cong_mul, cong_mul_cancel, cong_below}

-- u is the share of a in l: a · u is l modulo m, and a has an inverse there
pub record Share (m l a u : ℕ) : Type 0 where
  pub inverse : ℕ
  pub inverts : Inverses m a inverse
  pub gives : Cong m (a * u) l

-- the product with the inverse is a share
pub share_of_inverse : (m l a v : ℕ) → a * v % m ≡ 1 → Share m l a (l * v % m)
share_of_inverse m l a v h = record {
  inverse = v;
  inverts = record { one = cong_one m (a * v) h };
  gives =
      cong_mul (cong_refl m a) (cong_mod m (l * v)) then cong_of_equal m {b = l * (a * v)} (omega arith)
      then cong_mul (cong_refl m l) (cong_one m (a * v) h) then cong_of_equal m (omega arith);
}

-- the share of a product a · b, times b, is the share of a; b may be reduced
pub share_part : (m l a b c u : ℕ) → Cong m c b → Share m l (a * b) u → Share m l a (u * c % m)
share_part m l a b c u same s = record {
  inverse = b * s.inverse;
  inverts = record { one = cong_of_equal m {b = a * b * s.inverse} (omega arith) then s.inverts.one };
  gives =
      cong_mul (cong_refl m a) (cong_mod m (u * c) then cong_mul (cong_refl m u) same)
      then cong_of_equal m {b = a * b * u} (omega arith) then s.gives;
}

-- if p divides l, its share is the quotient
pub share_quotient : (m l p u : ℕ) → Share m l p u → u < m → l < m → p ∣ l → u ≡ l / p
share_quotient m l p u s small fits whole =
    let product : p * (l / p) ≡ l = mul_comm p (l / p) ∙ div-mul_cancel p whole in
    let same = cong_mul_cancel s.inverts u (l / p) (s.gives then cong_of_equal m (sym product)) in
    cong_below same small (lt_of_le_of_lt (div-le_self l p) fits)

-- a share above every quotient by p shows that p does not divide
pub share_above : (m l p u most : ℕ) → Share m l p u → u < m → l < m → l / p ≤ most → most < u → ¬ (p ∣ l)
share_above m l p u most s small fits bound above whole = absurd (omega (arith, share_quotient m l p u s small fits whole))

-- a pair whose shares are above every quotient by its numbers: neither divides
pub pair_above : (m l p q u most : ℕ) → 0 < m → Share m l (p * q) u → l < m → l / p ≤ most → l / q ≤ most
    → most < u * q % m → most < u * p % m → (¬ (p ∣ l)) × (¬ (q ∣ l))
pair_above m l p q u most some s fits bound bound₂ above above₂ = (
  share_above m l p _ most (share_part m l p q q u (cong_refl m q) s) (mod-lt (u * q) some) fits bound above,
  share_above m l q _ most
      (share_part m l q p p u (cong_refl m p) (subst (λ (x : ℕ). Share m l x u) (mul_comm p q) s)) (mod-lt (u * p) some) fits bound₂ above₂,
)

-- the shares of five numbers, by the inverse v of their product: two pairs and the last
module _ (m l p q r s t v : ℕ) (inverts : p * (q * (r * (s * (t * 1)))) * v % m ≡ 1) where
  share_of_all : (a : ℕ) → p * (q * (r * (s * (t * 1)))) ≡ a → Share m l a (l * v % m)
  share_of_all a same = subst (λ (x : ℕ). Share m l x (l * v % m)) same (share_of_inverse m l _ v inverts)

  share_of_four : (a : ℕ) → p * (q * (r * (s * (t * 1)))) ≡ a * t → Share m l a (l * v % m * t % m)
  share_of_four a same = share_part m l a t t _ (cong_refl m t) (share_of_all (a * t) same)

  pub share_of_first : Share m l (p * q) (l * v % m * t % m * (r * s % m) % m)
  share_of_first = share_part m l (p * q) (r * s) _ _ (cong_mod m (r * s)) (share_of_four (p * q * (r * s)) (omega arith))

  pub share_of_second : Share m l (r * s) (l * v % m * t % m * (p * q % m) % m)
  share_of_second = share_part m l (r * s) (p * q) _ _ (cong_mod m (p * q)) (share_of_four (r * s * (p * q)) (omega arith))

  pub share_of_last : Share m l t (l * v % m * (p * q % m) % m * (r * s % m) % m)
  share_of_last =
      share_part m l t (r * s) _ _ (cong_mod m (r * s))
      (share_part m l (t * (r * s)) (p * q) _ _ (cong_mod m (p * q)) (share_of_all (t * (r * s) * (p * q)) (omega arith)))
