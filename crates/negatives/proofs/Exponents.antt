-- Powers by negative exponents, of one value and of several: by q − n in kind 1, and by the inverse.
-- Assumes nothing.
use mathlib.Core.Path.{◌≡◌, refl, sym, ap, ◌∙◌}
use mathlib.Core.List.{List}
use Prim.Native.Nat.{ℕ, ◌-◌, ◌*◌, ◌%◌, ◌^◌, ◌≤◌, ◌<◌}
use native.Mathlib.Nat.{mod-lt, pow-zero}
use native.Mathlib.Omega.{arith}
use lib.IntN.{pos, neg_ℤ}
use lib.ListN.{get_or}
use lib.Pow.{pow-add}
use Rattle.types.specs.declared.Header.{Header}
use Rattle.lists.specs.Places.{pad8}
use Rattle.lists.proofs.Places.{tabulate_agree, pad8_at}
use Rattle.numbers.specs.Integer.{power}
use Rattle.numbers.specs.Inverse.{inverse}
use Rattle.numbers.proofs.Congruence.{◌then◌, cong_refl, cong_of_equal, cong_mod, cong_one, cong_mul, mod_mul_right}
use Rattle.numbers.proofs.Difference.{neg_difference}
use Rattle.numbers.proofs.Exponent.{power_is, power_neg}
use Rattle.powers.specs.Places.{mul_powers}
use Rattle.sigma.specs.Element.{Element}
use Rattle.sigma.proofs.ElementGroup.{element_coprime}
use Rattle.negatives.specs.Negative.{inverses_of, mul_negative_powers}

-- a power of the inverse is a power by a negative exponent
pub negative_root : (m v n : ℕ) {w value : ℕ} → w ≡ inverse m v → value ≡ w ^ n % m → value ≡ power m v (neg_ℤ (pos n))
negative_root m v n is_inverse is_value = rw (is_value, is_inverse) (sym (power_neg m v n))

-- a product with a power, given the power modulo m
times_power : (m x b e : ℕ) {value : ℕ} → b ^ e % m ≡ value → x * b ^ e % m ≡ x * value % m
times_power m x b e is_value = sym (mod_mul_right m x (b ^ e)) ∙ ap (λ (p : ℕ). x * p % m) is_value

module _ (h : Header) where
  -- in kind 1 the power by q − n is the power by −n
  pub negative_exponent : (v n : ℕ) → 1 < h.modulus → 0 < h.order → n ≤ h.order → Element h v → h.kind ≡ 1
      → v ^ (h.order - n) % h.modulus ≡ power h.modulus v (neg_ℤ (pos n))
  negative_exponent v n big some within element kind =
      let m = h.modulus in
      let q = h.order in
      let whole : v ^ (q - n) * v ^ n ≡ v ^ q = sym (pow-add v (q - n) n) ∙ ap (λ (k : ℕ). v ^ k) (omega arith) in
      sym (power_is m v big (element_coprime h big some v element) _ (mod-lt _ (omega arith)) (neg_difference n (omega arith))
      (cong_mul (cong_mod m _) (cong_refl m _) then cong_of_equal m whole then cong_one m _ (element.ordered kind)
      then cong_of_equal m (sym (pow-zero v))))

  -- in kind 1 powers by −e are those by q − e
  pub negative_by_order : (e n : ℕ) (xs ys : List ℕ) {values : List ℕ} → 1 < h.modulus → 0 < h.order → e ≤ h.order
      → ((i : ℕ) → i < n → Element h (get_or ys i 0)) → h.kind ≡ 1
      → values ≡ pad8 0 (mul_powers h.modulus (h.order - e) n xs ys)
      → values ≡ pad8 0 (mul_negative_powers h.modulus e n xs ys)
  unfolding mul_powers mul_negative_powers
  negative_by_order e n xs ys big some within elements kind are =
      are ∙ ap (pad8 0)
      (tabulate_agree n _ _ (λ i inside. times_power _ _ _ _ (negative_exponent _ e big some within (elements i inside) kind)))

-- powers by −e are powers of the inverses by e
pub negative_by_inverses : (m e n : ℕ) (xs ys : List ℕ) {found values : List ℕ} → found ≡ pad8 0 (inverses_of m n ys)
    → values ≡ pad8 0 (mul_powers m e n xs found) → values ≡ pad8 0 (mul_negative_powers m e n xs ys)
unfolding mul_powers mul_negative_powers inverses_of
negative_by_inverses m e n xs ys inverted are =
    are ∙ ap (pad8 0)
    (tabulate_agree n _ _ (λ i inside.
    times_power _ _ _ _ (negative_root m (get_or ys i 0) e (pad8_at n _ 0 inverted i inside) refl)))
