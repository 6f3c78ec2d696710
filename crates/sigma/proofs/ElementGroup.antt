-- The group elements of a sheet form a commutative group under the product modulo m, in both kinds.
-- Assumes nothing.
use Prim.Native.Nat.{ℕ, zero, suc, ◌*◌, ◌%◌, ◌^◌, ◌<◌}
use mathlib.Core.Path.{◌≡◌, sym, ap, ◌∙◌}
use mathlib.Core.Logic.{◌≢◌, inl, inr}
use native.Mathlib.Nat.{eq-zero-or-pos, eq-one_of_dvd-one, mod-lt, mod-eq_of_lt, mul_comm, mul_assoc, one-mul, pow-zero, pow-suc}
use native.Mathlib.Bridge.{le_prop}
use native.Mathlib.Omega.{arith}
use lib.IntN.{ℤ, pos, negsuc}
use Rattle.types.specs.declared.Header.{Header}
use Rattle.groups.specs.Vector.{NumberGroup, number_power, numbers_set}
use Rattle.groups.proofs.Vectors.{number_power_zero, number_power_suc, number_power_negative}
use Rattle.numbers.specs.Congruence.{Cong}
use Rattle.numbers.specs.Gcd.{gcd}
use Rattle.numbers.specs.Integer.{power}
use Rattle.numbers.specs.Inverse.{inverse, Inverses}
use Rattle.numbers.specs.Product.{product}
use Rattle.numbers.proofs.Congruence.{cong_sym, ◌then◌, cong_refl, cong_of_equal, cong_mod, cong_one, cong_mul, cong_pow}
use Rattle.numbers.proofs.Congruence.{mod_is_one, mod_mul_left, mod_mul_right}
use Rattle.numbers.proofs.Exponent.{power_pos, power_neg}
use Rattle.numbers.proofs.Gcd.{gcd_one, gcd_comm, gcd_zero}
use Rattle.numbers.proofs.Inverse.{inverses_sym, inverses_pow, inverses_coprime, inverse_inverts, inverse_below, coprime_mul}
use Rattle.numbers.proofs.Powers.{one_pow, mul_pow, order_inverses, pow_swap}
use Rattle.numbers.proofs.Product.{product_cong, product_one, product_pow}
use Rattle.sigma.specs.Element.{Element}
use Rattle.sigma.proofs.ByKind.{by_kind}

module _ (h : Header) where
  -- two proofs that v is a group element are equal
  pub element_proposition : (v : ℕ) → IsProp (Element h v)
  element_proposition v a b = λ i. record {
    positive = le_prop a.positive b.positive i;
    below = le_prop a.below b.below i;
    ordered = λ e. numbers_set _ _ (a.ordered e) (b.ordered e) i;
    coprime = λ n. numbers_set _ _ (a.coprime n) (b.coprime n) i;
  }

  -- 1 is a group element
  pub element_one : 1 < h.modulus → Element h 1
  element_one big = record {
    positive = omega arith;
    below = big;
    ordered = λ e. rw (one_pow h.order) (mod-eq_of_lt big);
    coprime = λ n. (gcd_one 1 h.modulus).1 (λ d p q. eq-one_of_dvd-one p);
  }

module _ (h : Header) (big : 1 < h.modulus) (some : 0 < h.order) where
  -- in both kinds a group element has no divisor in common with the modulus
  pub element_coprime : (v : ℕ) → Element h v → gcd v h.modulus ≡ 1
  element_coprime v x =
      by_kind h (λ e. inverses_coprime (order_inverses h.modulus h.order v some (x.ordered e))) x.coprime

  -- a group element and its inverse
  pub element_inverts : (v : ℕ) → Element h v → Inverses h.modulus v (inverse h.modulus v)
  element_inverts v x = inverse_inverts h.modulus v big (element_coprime v x)

  -- a number below m and coprime to it is a group element, in kind 1 if its power q is 1
  element_from : (v : ℕ) → v < h.modulus → gcd v h.modulus ≡ 1 → (h.kind ≡ 1 → Cong h.modulus (v ^ h.order) 1) → Element h v
  element_from v below coprime ordered = record {
    positive = elim (eq-zero-or-pos v) [
      | inl none ↦ absurd (omega (arith, gcd_zero h.modulus, gcd_comm h.modulus 0, ap (λ (x : ℕ). gcd x h.modulus) none))
      | inr more ↦ more
    ];
    below = below;
    ordered = λ e. mod_is_one big (ordered e);
    coprime = λ n. coprime;
  }

  -- in kind 1 a number below m whose power q is 1 is a group element
  pub element_by_order : h.kind ≡ 1 → (v : ℕ) → v < h.modulus → Cong h.modulus (v ^ h.order) 1 → Element h v
  element_by_order e v below one =
      element_from v below (inverses_coprime (order_inverses h.modulus h.order v some (mod_is_one big one))) (λ e'. one)

  -- in kind 2 a number below m and coprime to it is a group element
  pub element_by_gcd : h.kind ≢ 1 → (v : ℕ) → v < h.modulus → gcd v h.modulus ≡ 1 → Element h v
  element_by_gcd n v below coprime = element_from v below coprime (λ e. absurd (n e))

  -- the power q of a group element of kind 1 is 1
  element_order : (v : ℕ) → Element h v → h.kind ≡ 1 → Cong h.modulus (v ^ h.order) 1
  element_order v x e = cong_one h.modulus _ (x.ordered e)

  -- the product of two group elements is one
  pub element_product : (v w : ℕ) → Element h v → Element h w → Element h (v * w % h.modulus)
  element_product v w x y =
      let m = h.modulus in
      element_from (v * w % m) (mod-lt _ (omega arith)) (coprime_mul m v w (element_coprime v x) (element_coprime w y)) (λ e.
      cong_pow (cong_mod m (v * w)) h.order then cong_of_equal m (mul_pow v w h.order)
      then cong_mul (element_order v x e) (element_order w y e))

  -- in kind 1 a product of powers of group elements is one
  pub element_powers : h.kind ≡ 1 → (n : ℕ) (v k : ℕ → ℕ) → ((j : ℕ) → j < n → Element h (v j))
      → Element h (product n (λ j. v j ^ k j) % h.modulus)
  element_powers e n v k each =
      let m = h.modulus in
      let q = h.order in
      let term : ℕ → ℕ = λ j. v j ^ k j in
      let one : (j : ℕ) → j < n → Cong m (term j ^ q) 1 = λ j b.
      cong_of_equal m (pow_swap (v j) (k j) q) then cong_pow (element_order (v j) (each j b) e) (k j)
      then cong_of_equal m (one_pow (k j)) in
      element_by_order e _ (mod-lt _ (omega arith))
      (cong_pow (cong_mod m (product n term)) q then cong_of_equal m (product_pow n term q)
      then product_cong m n _ (λ j. 1) one then cong_of_equal m (product_one n))

  -- the inverse of a group element is one
  pub element_inverse : (v : ℕ) → Element h v → Element h (inverse h.modulus v)
  element_inverse v x =
      let m = h.modulus in
      let w = inverse m v in
      let inv = element_inverts v x in
      element_from w (inverse_below m v big (element_coprime v x)) (inverses_coprime (inverses_sym inv)) (λ e.
      cong_of_equal m (sym (one-mul (w ^ h.order)))
      then cong_mul (cong_sym (element_order v x e)) (cong_refl m (w ^ h.order)) then (inverses_pow inv h.order).one)

  -- the group elements under the product modulo m
  unfoldable pub element_group : NumberGroup (Element h)
  element_group = record {
    proposition = element_proposition h;
    product = λ v w. v * w % h.modulus;
    unit = 1;
    inverse = inverse h.modulus;
    product_in = element_product;
    unit_in = element_one h big;
    inverse_in = element_inverse;
    associative = λ u v w x y z.
        mod_mul_left h.modulus (u * v) w ∙ ap (λ (k : ℕ). k % h.modulus) (mul_assoc u v w)
        ∙ sym (mod_mul_right h.modulus u (v * w));
    commutative = λ v w x y. ap (λ (k : ℕ). k % h.modulus) (mul_comm v w);
    unit_left = λ v x. ap (λ (k : ℕ). k % h.modulus) (one-mul v) ∙ mod-eq_of_lt x.below;
    inverse_left = λ v x. mod_is_one big (inverses_sym (element_inverts v x)).one;
  }

  -- a natural power in the group is the power modulo m
  natural_power : (v n : ℕ) → number_power element_group v (pos n) ≡ v ^ n % h.modulus
  unfolding element_group
  natural_power v zero = number_power_zero element_group v ∙ sym (rw (pow-zero v) (mod-eq_of_lt big))
  natural_power v (suc n) =
      number_power_suc element_group v n ∙ ap (λ (k : ℕ). k * v % h.modulus) (natural_power v n)
      ∙ mod_mul_left h.modulus (v ^ n) v ∙ ap (λ (k : ℕ). k % h.modulus) (sym (pow-suc v n))

  -- a power in the group is the power modulo m
  pub element_power : (v : ℕ) (k : ℤ) → number_power element_group v k ≡ power h.modulus v k
  unfolding element_group
  element_power v (pos n) = natural_power v n ∙ sym (power_pos h.modulus v n)
  element_power v (negsuc n) =
      number_power_negative element_group v n ∙ natural_power (inverse h.modulus v) (suc n) ∙ sym (power_neg h.modulus v (suc n))
