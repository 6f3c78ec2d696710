-- The numbers below q form a commutative group under the sum modulo q, and its powers are multiples.
-- Assumes nothing.
use Prim.Native.Nat.{ℕ, zero, suc, ◌+◌, ◌-◌, ◌*◌, ◌%◌, ◌<◌}
use mathlib.Core.Path.{◌≡◌, sym, ap, ◌∙◌}
use native.Mathlib.Bridge.{le_prop}
use native.Mathlib.Nat.{add_assoc, add_comm, zero-add, zero-mul, suc-mul}
use native.Mathlib.Nat.{zero-mod, mod-lt, mod_self, mod-eq_of_lt, mod-add-mod, add-mod-mod}
use native.Mathlib.Omega.{arith}
use lib.IntN.{ℤ, pos, negsuc, ◌*ℤ◌}
use Rattle.groups.specs.Vector.{NumberGroup, number_power}
use Rattle.groups.proofs.Vectors.{number_power_zero, number_power_suc, number_power_negative}
use Rattle.numbers.specs.Congruence.{Cong}
use Rattle.numbers.specs.Integer.{residue}
use Rattle.numbers.proofs.Congruence.{◌then◌, cong_refl, cong_of_equal, cong_mod, cong_add, cong_mul}
use Rattle.numbers.proofs.Difference.{neg_difference}
use Rattle.numbers.proofs.Integer.{residue_pos, residue_is}

module _ (q : ℕ) (some : 0 < q) where
  -- a number below q and what it lacks to q make 0
  pub lack : (x : ℕ) → x < q → ((q - x) % q + x) % q ≡ 0
  lack x below =
      let whole : q - x + x ≡ q = omega arith in
      mod-add-mod (q - x) q x ∙ ap (λ (k : ℕ). k % q) whole ∙ mod_self q

  -- the numbers below q under the sum modulo q
  unfoldable pub residue_group : NumberGroup (λ x. x < q)
  residue_group = record {
    proposition = λ x. le_prop;
    product = λ x y. (x + y) % q;
    unit = 0;
    inverse = λ x. (q - x) % q;
    product_in = λ x y l k. mod-lt (x + y) some;
    unit_in = some;
    inverse_in = λ x l. mod-lt (q - x) some;
    associative = λ x y z l k j.
        mod-add-mod (x + y) q z ∙ ap (λ (k : ℕ). k % q) (add_assoc x y z) ∙ sym (add-mod-mod x (y + z) q);
    commutative = λ x y l k. ap (λ (k : ℕ). k % q) (add_comm x y);
    unit_left = λ x l. ap (λ (k : ℕ). k % q) (zero-add x) ∙ mod-eq_of_lt l;
    inverse_left = lack;
  }

  -- a natural power is a multiple modulo q
  natural_power : (x n : ℕ) → number_power residue_group x (pos n) ≡ n * x % q
  unfolding residue_group
  natural_power x zero = number_power_zero residue_group x ∙ sym (rw (zero-mul x) (zero-mod q))
  natural_power x (suc n) =
      number_power_suc residue_group x n ∙ ap (λ (k : ℕ). (k + x) % q) (natural_power x n)
      ∙ mod-add-mod (n * x) q x ∙ ap (λ (k : ℕ). k % q) (sym (suc-mul n x))

  -- a power in the group is the multiple modulo q
  pub residue_power : (x : ℕ) → x < q → (k : ℤ) → number_power residue_group x k ≡ residue q (k *ℤ pos x)
  unfolding residue_group
  residue_power x below (pos n) = natural_power x n ∙ sym (residue_pos q (n * x))
  residue_power x below (negsuc n) =
      let w : ℕ = (q - x) % q in
      let none : Cong q (w + x) 0 = record { same = lack x below ∙ sym (zero-mod q) } in
      let sum : suc n * w + suc n * x ≡ suc n * (w + x) = omega arith in
      let served : Cong q (suc n * w % q + suc n * x) 0 =
      cong_add (cong_mod q (suc n * w)) (cong_refl q (suc n * x)) then cong_of_equal q sum
      then cong_mul (cong_refl q (suc n)) none then cong_of_equal q (omega arith) in
      number_power_negative residue_group x n ∙ natural_power w (suc n)
      ∙ sym (residue_is q _ (mod-lt _ some) (neg_difference (suc n * x) (omega arith)) served)
