-- The challenge that is left: below K it gives the whole together with the one that is taken, and taking it gives that one back.
-- Assumes nothing.
use Prim.Native.Nat.{ℕ, ◌+◌, ◌-◌, ◌%◌, ◌<◌, ◌≤◌}
use mathlib.Core.Path.{◌≡◌, sym, ap, ◌∙◌}
use native.Mathlib.Decide.{dec_lt}
use native.Mathlib.Nat.{add-mod_left, mod-eq_of_lt, mod-lt}
use native.Mathlib.Omega.{arith}
use Rattle.disjunctions.specs.Round.{other_challenge}

module _ (K c d : ℕ) (below : c < K) (taken : d < K) where
  -- it is c − d where that is not negative
  other_above : d ≤ c → other_challenge K c d ≡ c - d
  unfolding other_challenge
  other_above h =
      let sum : c + (K - d) ≡ K + (c - d) = omega arith in
      ap (λ (n : ℕ). n % K) sum ∙ add-mod_left K (c - d) ∙ mod-eq_of_lt (omega arith)

  -- and c + K − d else
  other_below : c < d → other_challenge K c d ≡ c + (K - d)
  unfolding other_challenge
  other_below h = mod-eq_of_lt (omega arith)

-- it is below K
pub other_less : (K c d : ℕ) → 0 < K → other_challenge K c d < K
unfolding other_challenge
other_less K c d some = mod-lt (c + (K - d)) some

module _ (K c d : ℕ) (below : c < K) (taken : d < K) where
  -- with the one that is taken it gives the whole, modulo K
  pub other_sum : (d + other_challenge K c d) % K ≡ c
  other_sum = elim (dec_lt c d) [
    | yes h ↦
        let sum : d + other_challenge K c d ≡ K + c = omega (arith, other_below K c d below taken h) in
        ap (λ (n : ℕ). n % K) sum ∙ add-mod_left K c ∙ mod-eq_of_lt below
    | no h ↦
        let sum : d + other_challenge K c d ≡ c = omega (arith, other_above K c d below taken (omega arith)) in
        ap (λ (n : ℕ). n % K) sum ∙ mod-eq_of_lt below
  ]

  -- taking it gives the one that was taken
  pub other_other : other_challenge K c (other_challenge K c d) ≡ d
  other_other = elim (dec_lt c d) [
    | yes h ↦
        let first = other_below K c d below taken h in
        let second = other_below K c (other_challenge K c d) below (other_less K c d (omega arith)) in
        omega (arith, first, second (omega (arith, first)))
    | no h ↦
        let first = other_above K c d below taken (omega arith) in
        let second = other_above K c (other_challenge K c d) below (other_less K c d (omega arith)) in
        omega (arith, first, second (omega (arith, first)))
  ]

-- challenges that leave the same of one c are the same
pub other_same : (K c d e : ℕ) → c < K → d < K → e < K → other_challenge K c d ≡ other_challenge K c e → d ≡ e
other_same K c d e below taken taken' same =
    sym (other_other K c d below taken) ∙ ap (other_challenge K c) same ∙ other_other K c e below taken'

-- the same one taken leaves different ones of different challenges
pub other_apart : (K c c' d : ℕ) → c < K → c' < K → d < K → other_challenge K c d ≡ other_challenge K c' d → c ≡ c'
other_apart K c c' d below below' taken same =
    sym (other_sum K c d below taken) ∙ ap (λ (n : ℕ). (d + n) % K) same ∙ other_sum K c' d below' taken
