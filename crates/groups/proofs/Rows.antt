-- Maurer's round over n-fold groups of numbers, read value by value.
-- Assumes nothing.
use mathlib.Core.Path.{◌≡◌, ap, sym, ◌∙◌}
use Prim.Native.Nat.{ℕ, ◌<◌}
use lib.IntN.{ℤ, pos, neg_ℤ}
use lib.ListN.{get_or}
use Rattle.groups.specs.Group.{group_power}
use Rattle.groups.specs.Homomorphism.{Homomorphism}
use Rattle.groups.specs.Vector.{Vector, NumberGroup, number_power, vector_group, same_slots, value_of_product}
use Rattle.groups.specs.Transcript.{Accepting, honest_response, simulated_commitment}
use Rattle.groups.proofs.Vectors.{value_of_power}

module _ {P : ℕ → Type 0} (N : NumberGroup P) (n : ℕ) where
  -- the j-th value of y · x^k
  pub value_of_side : (y x : Vector P n) (k : ℤ) (j : ℕ) → j < n
      → get_or ((vector_group N n).product y (group_power (vector_group N n) x k)).0 j 0
      ≡ N.product (get_or y.0 j 0) (number_power N (get_or x.0 j 0) k)
  unfolding vector_group
  value_of_side y x k j h = cc (value_of_product N n y (group_power (vector_group N n) x k) j h, value_of_power N n x k j h)

  -- the j-th value of the response to c with witness x and nonce k: k_j · x_j^c
  pub value_of_response : (x : Vector P n) (c : ℕ) (k : Vector P n) (j : ℕ) → j < n
      → get_or (honest_response (vector_group N n) x c k).0 j 0 ≡ N.product (get_or k.0 j 0) (number_power N (get_or x.0 j 0) (pos c))
  unfolding honest_response
  value_of_response x c k j h = value_of_side k x (pos c) j h

module _ {P Q : ℕ → Type 0} (N : NumberGroup P) (n : ℕ) (M : NumberGroup Q) (s : ℕ)
    (f : Homomorphism (vector_group N n) (vector_group M s)) (z : Vector Q s) (c : ℕ) where
  -- the i-th value of the simulator's commitment: [r]_i · z_i^(−c)
  pub value_of_simulated : (r : Vector P n) (i : ℕ) → i < s
      → get_or (simulated_commitment f z c r).0 i 0 ≡ M.product (get_or (f.map r).0 i 0) (number_power M (get_or z.0 i 0) (neg_ℤ (pos c)))
  unfolding simulated_commitment
  value_of_simulated r i h = value_of_side M s (f.map r) z (neg_ℤ (pos c)) i h

  -- an accepted round's equation holds in every row: [r]_i = t_i · z_i^c
  pub accepted_row : (t : Vector Q s) (r : Vector P n) → Accepting f z t c r → (i : ℕ) → i < s
      → get_or (f.map r).0 i 0 ≡ M.product (get_or t.0 i 0) (number_power M (get_or z.0 i 0) (pos c))
  accepted_row t r accepted i h = ap (λ (y : Vector Q s). get_or y.0 i 0) accepted ∙ value_of_side M s t z (pos c) i h

  -- a round whose equation holds in every row is accepted
  pub accepted_by_rows : (t : Vector Q s) (r : Vector P n)
      → ((i : ℕ) → i < s → get_or (f.map r).0 i 0 ≡ M.product (get_or t.0 i 0) (number_power M (get_or z.0 i 0) (pos c)))
      → Accepting f z t c r
  accepted_by_rows t r rows = same_slots M s _ _ (λ i h. rows i h ∙ sym (value_of_side M s t z (pos c) i h))
