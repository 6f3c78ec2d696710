-- Maurer's Theorem 3 (2015): two accepted rounds with one commitment give a witness by the formula u^a · (r / r')^b.
-- Where also (r / r')^ℓ = u^(c − c'), the witness depends neither on the choice of a and b nor on the order of the rounds.
-- Assumes nothing.
use mathlib.Core.Path.{◌≡◌}
use Prim.Native.Nat.{ℕ}
use lib.IntN.{ℤ, pos, ◌-ℤ◌, ◌*ℤ◌}
use Rattle.groups.specs.Group.{Group, group_power, group_quotient}
use Rattle.groups.specs.Homomorphism.{Homomorphism}
use Rattle.groups.specs.Transcript.{Accepting, Bezout, witness_formula}
use Rattle.groups.proofs.Groups.{inverse_of_quotient, quotient_cancel}
use Rattle.groups.proofs.Powers.{power_one, power_sum, power_difference, power_power, power_swap, power_of_product}
use Rattle.groups.proofs.Powers.{preserves_quotient, preserves_power}

-- x^(ℓ · a + (c − c') · b) is x, taken apart as the formula is
pub power_bezout : {A : Type 0} (G : Group A) (x : A) (ℓ c c' : ℕ) (a b : ℤ) → Bezout ℓ c c' a b
    → G.product (group_power G (group_power G x (pos ℓ)) a) (group_power G (group_power G x (pos c -ℤ pos c')) b) ≡ x
power_bezout G x ℓ c c' a b one =
    cc (
      power_power G x (pos ℓ) a,
      power_power G x (pos c -ℤ pos c') b,
      power_sum G x (pos ℓ *ℤ a) ((pos c -ℤ pos c') *ℤ b),
      power_one G x,
    )

module _ {A B : Type 0} {G : Group A} {H : Group B} (f : Homomorphism G H) (z t : B) (c c' : ℕ) (r r' : A)
    (first : Accepting f z t c r) (second : Accepting f z t c' r') where
  -- [r / r'] = z^(c − c')
  pub quotient_image : f.map (group_quotient G r r') ≡ group_power H z (pos c -ℤ pos c')
  quotient_image =
      cc (preserves_quotient f r r', quotient_cancel H t (group_power H z (pos c)) (group_power H z (pos c')), power_difference H z (pos c) (pos c'))

  -- Theorem 3: where [u] = z^ℓ and ℓ · a + (c − c') · b = 1, the formula's value is carried to z
  pub formula_carried : (u : A) (ℓ : ℕ) → f.map u ≡ group_power H z (pos ℓ) → (a b : ℤ) → Bezout ℓ c c' a b
      → f.map (witness_formula G u a b r r') ≡ z
  unfolding witness_formula
  formula_carried u ℓ image a b one =
      cc (
        f.preserves (group_power G u a) (group_power G (group_quotient G r r') b),
        preserves_power f u a,
        preserves_power f (group_quotient G r r') b,
        quotient_image,
        power_bezout H z ℓ c c' a b one,
      )

-- an X with X^ℓ = u and X^(c − c') = r / r' is the formula's value, for all a and b that fit
pub only_value : {A : Type 0} (G : Group A) (u r r' : A) (ℓ c c' : ℕ) (a b : ℤ) → Bezout ℓ c c' a b
    → (x : A) → group_power G x (pos ℓ) ≡ u → group_power G x (pos c -ℤ pos c') ≡ group_quotient G r r' → x ≡ witness_formula G u a b r r'
unfolding witness_formula
only_value G u r r' ℓ c c' a b one x root difference = cc (power_bezout G x ℓ c c' a b one)

module _ {A : Type 0} (G : Group A) (u r r' : A) (ℓ c c' : ℕ)
    (matching : group_power G (group_quotient G r r') (pos ℓ) ≡ group_power G u (pos c -ℤ pos c')) (a b : ℤ) (one : Bezout ℓ c c' a b) where
  -- the formula's value X has X^ℓ = u
  pub value_root : group_power G (witness_formula G u a b r r') (pos ℓ) ≡ u
  unfolding witness_formula
  value_root =
      cc (
        power_of_product G (group_power G u a) (group_power G (group_quotient G r r') b) (pos ℓ),
        power_swap G u a (pos ℓ),
        power_swap G (group_quotient G r r') b (pos ℓ),
        power_bezout G u ℓ c c' a b one,
      )

  -- the formula's value X has X^(c − c') = r / r'
  pub value_difference : group_power G (witness_formula G u a b r r') (pos c -ℤ pos c') ≡ group_quotient G r r'
  unfolding witness_formula
  value_difference =
      cc (
        power_of_product G (group_power G u a) (group_power G (group_quotient G r r') b) (pos c -ℤ pos c'),
        power_swap G u a (pos c -ℤ pos c'),
        power_swap G (group_quotient G r r') b (pos c -ℤ pos c'),
        power_bezout G (group_quotient G r r') ℓ c c' a b one,
      )

  -- every choice of a and b gives the same value
  pub any_choice : (a' b' : ℤ) → Bezout ℓ c c' a' b' → witness_formula G u a b r r' ≡ witness_formula G u a' b' r r'
  any_choice a' b' one' = only_value G u r r' ℓ c c' a' b' one' _ value_root value_difference

  -- the rounds swapped, with integers of their own, give the same value
  pub swapped : (a' b' : ℤ) → Bezout ℓ c' c a' b' → witness_formula G u a b r r' ≡ witness_formula G u a' b' r' r
  swapped a' b' one' =
      let x : A = witness_formula G u a b r r' in
      only_value G u r' r ℓ c' c a' b' one' x value_root
      (cc (
        value_difference,
        power_difference G x (pos c) (pos c'),
        power_difference G x (pos c') (pos c),
        inverse_of_quotient G (group_power G x (pos c)) (group_power G x (pos c')),
        inverse_of_quotient G r r',
      ))
