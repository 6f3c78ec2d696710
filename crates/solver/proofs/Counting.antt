-- The candidates of each kind: how many there are, and that counting them forms no number above their count.
-- Assumes nothing.
use Prim.Native.Nat.{ℕ, ◌-◌, ◌*◌, ◌^◌, ◌<◌, ◌≤◌}
use mathlib.Core.Path.{◌≡◌}
use mathlib.Core.Logic.{◌≢◌}
use mathlib.Core.List.{[], ◌∷◌}
use native.Mathlib.Nat.{le-mul_of_pos_right, one-le-pow}
use native.Mathlib.Omega.{arith}
use Rattle.types.specs.declared.Header.{Header}
use Rattle.powers.proofs.Bounded.{factor_more}
use Rattle.sigma.proofs.ByKind.{by_kind, exponent_kind, root_kind}
use Rattle.games.specs.Slots.{slots_of}
use Rattle.games.specs.Text.{candidate, candidates}
use Rattle.solver.specs.Small.{Small}

module _ (h : Header) where
  -- q^n in kind 1
  pub count_exponent : h.kind ≡ 1 → candidates h ≡ h.order ^ h.columns
  unfolding candidates
  count_exponent e = rw (exponent_kind h e)

  -- m in kind 2
  pub count_root : h.kind ≢ 1 → candidates h ≡ h.modulus
  unfolding candidates
  count_root other = rw (root_kind h other)

  -- the digits of k to base q in kind 1
  pub candidate_exponent : h.kind ≡ 1 → (k : ℕ) → candidate h k ≡ slots_of h.order h.columns k
  unfolding candidate
  candidate_exponent e k = rw (exponent_kind h e)

  -- k itself in kind 2
  pub candidate_root : h.kind ≢ 1 → (k : ℕ) → candidate h k ≡ k ∷ []
  unfolding candidate
  candidate_root other k = rw (root_kind h other)

  -- there are at most 4,096
  pub count_few : Small h → candidates h ≤ 4096
  count_few small =
      by_kind h (λ e. omega (arith, count_exponent e, small.few_choices e))
      (λ other. omega (arith, count_root other, small.small_modulus other))

-- a product that has all of a power's factors but some has no more than the power
pub factor_inside : (p q left whole : ℕ) → 0 < q → p * q ^ left ≡ whole → 0 < left → p * q ≤ whole
factor_inside p q left whole some kept more =
    omega (arith, factor_more p q left whole kept more, le-mul_of_pos_right (p * q) (one-le-pow (left - 1) q some))
