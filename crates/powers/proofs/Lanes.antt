-- Four numbers side by side as a list: what holds of each place holds of the four, and fours one behind the other fill an array.
-- Assumes nothing.
use mathlib.Core.Path.{◌≡◌, refl, sym, ap, ap₂, ◌∙◌}
use mathlib.Core.List.{List, [], ◌∷◌, ◌++◌}
use Prim.Native.Nat.{ℕ, zero, suc, ◌+◌, ◌≤◌, ◌<◌}
use native.Mathlib.Omega.{arith}
use lib.ListN.{get_or}
use Rattle.lists.specs.Places.{items_at, tabulate, places, pad8}
use Rattle.lists.proofs.Places.{tabulate_agree, tabulate_at, places_tabulate, places_pad8, places_whole}
use Rattle.powers.specs.declared.four.Four.{Four}
use Rattle.powers.specs.Places.{lanes}

-- what holds of 0, 1, 2 and 3 holds of each number below four
pub four_cases : (P : ℕ → Type 0) → P 0 → P 1 → P 2 → P 3 → (d : ℕ) → d < 4 → P d
four_cases P p₀ p₁ p₂ p₃ zero inside = p₀
four_cases P p₀ p₁ p₂ p₃ (suc zero) inside = p₁
four_cases P p₀ p₁ p₂ p₃ (suc (suc zero)) inside = p₂
four_cases P p₀ p₁ p₂ p₃ (suc (suc (suc zero))) inside = p₃
four_cases P p₀ p₁ p₂ p₃ (suc (suc (suc (suc d)))) inside = absurd (omega arith)

-- one of the four
abbrev pub lane : Four → ℕ → ℕ
lane x k = get_or (lanes x) k 0

-- one number in all four places
pub lane_same : (v k : ℕ) → k < 4 → lane (record { a = v; b = v; c = v; d = v }) k ≡ v
unfolding lanes tabulate items_at
lane_same v k inside = tabulate_at 4 (λ k. v) 0 refl k inside

-- four numbers that are the values of f, place by place
pub lanes_are : (x : Four) (f : ℕ → ℕ) → ((k : ℕ) → k < 4 → lane x k ≡ f k) → lanes x ≡ tabulate 4 f
unfolding lanes places
lanes_are x f each = sym (places_whole 4 (lanes x) refl) ∙ tabulate_agree 4 (lane x) f each

-- ---- the first n values of f in an array

module _ (f : ℕ → ℕ) (n : ℕ) where
  -- of one four
  pub one_four : (p : Four) → n ≤ 4 → lanes p ≡ tabulate 4 f
      → places n (p.a ∷ p.b ∷ p.c ∷ p.d ∷ 0 ∷ 0 ∷ 0 ∷ 0 ∷ []) ≡ tabulate n f
  unfolding lanes pad8
  one_four p most is_p = places_pad8 n (lanes p) ∙ ap (places n) is_p ∙ places_tabulate n 4 f most

  -- of two
  pub two_fours : (p q : Four) → n ≤ 8 → lanes p ≡ tabulate 4 f → lanes q ≡ tabulate 4 (λ k. f (4 + k))
      → places n (p.a ∷ p.b ∷ p.c ∷ p.d ∷ q.a ∷ q.b ∷ q.c ∷ q.d ∷ []) ≡ tabulate n f
  unfolding lanes tabulate items_at
  two_fours p q most is_p is_q =
      ap (places n) (ap₂ (λ (xs ys : List ℕ). xs ++ ys) is_p is_q) ∙ places_tabulate n 8 f most
