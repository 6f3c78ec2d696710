-- The digits of a number to base q, one a turn, the first with the greatest weight.
-- Assumes nothing.
use Prim.Native.Nat.{ℕ, suc, ◌+◌, ◌-◌, ◌/◌, ◌%◌, ◌^◌, ◌<◌}
use mathlib.Core.Path.{◌≡◌, sym, ap, ap₂, ◌∙◌}
use mathlib.Core.List.{List}
use native.Mathlib.Nat.{mul-div_cancel_left, pow-succ'}
use native.Mathlib.Omega.{arith}
use lib.ListN.{get_or}
use Rattle.lists.specs.Places.{places, tabulate}
use Rattle.lists.proofs.Places.{places_whole}
use Rattle.games.specs.Slots.{slots_of}
use Rattle.games.proofs.Slots.{length_slots, power_some}

-- digit j of k
pub digit : ℕ → ℕ → ℕ → ℕ → ℕ
digit q n k j = get_or (slots_of q n k) j 0

-- after j digits: the weight of the digit before the next, and what is left of k
pub record Left (q n k j weight rest : ℕ) : Type 0 where
  pub weighs : weight ≡ q ^ (n - j)
  pub same : (i : ℕ) → get_or (slots_of q n k) (j + i) 0 ≡ get_or (slots_of q (n - j) rest) i 0

module _ (q : ℕ) (some : 0 < q) (n k : ℕ) where
  -- before the first digit
  pub left_start : (weight : ℕ) → weight ≡ q ^ n → Left q n k 0 weight k
  left_start weight whole =
      let all : n ≡ n - 0 = omega arith in
      record {
        weighs = whole ∙ ap (λ (e : ℕ). q ^ e) all;
        same = λ i.
            ap₂ (λ (e : ℕ) (at : ℕ). get_or (slots_of q e k) at 0) all (omega arith);
      }

  -- the numbers are the places of the k-th choice
  pub digits_all : tabulate n (digit q n k) ≡ slots_of q n k
  unfolding digit places
  digits_all = places_whole n (slots_of q n k) (length_slots q some n k)

  module _ (j weight rest : ℕ) (more : j < n) (left : Left q n k j weight rest) where
    -- the weight of the next digit
    pub next_weight : weight / q ≡ q ^ (n - (j + 1))
    next_weight =
        let next : n - j ≡ suc (n - (j + 1)) = omega arith in
        ap (λ (w : ℕ). w / q) (left.weighs ∙ ap (λ (e : ℕ). q ^ e) next ∙ pow-succ' q (n - (j + 1)))
        ∙ mul-div_cancel_left (q ^ (n - (j + 1))) some

    -- is positive
    pub next_positive : 0 < weight / q
    next_positive = omega (arith, next_weight, power_some q some (n - (j + 1)))

    -- what is left has one digit more than what is left after it
    unfold_next : slots_of q (n - j) rest ≡ slots_of q (suc (n - (j + 1))) rest
    unfold_next = ap (λ (e : ℕ). slots_of q e rest) (omega arith)

    -- the next digit
    pub next_digit : rest / (weight / q) ≡ digit q n k j
    unfolding digit slots_of
    next_digit =
        ap (λ (w : ℕ). rest / w) next_weight
        ∙ sym (ap (λ (at : ℕ). get_or (slots_of q n k) at 0) (omega arith) ∙ left.same 0
        ∙ ap (λ (xs : List ℕ). get_or xs 0 0) unfold_next)

    -- and what is left after it
    pub left_turn : Left q n k (j + 1) (weight / q) (rest % (weight / q))
    unfolding slots_of
    left_turn = record {
      weighs = next_weight;
      same = λ i.
          ap (λ (at : ℕ). get_or (slots_of q n k) at 0) {y = j + suc i} (omega arith) ∙ left.same (suc i)
          ∙ ap (λ (xs : List ℕ). get_or xs (suc i) 0) unfold_next
          ∙ ap (λ (w : ℕ). get_or (slots_of q (n - (j + 1)) (rest % w)) i 0) (sym next_weight);
    }
