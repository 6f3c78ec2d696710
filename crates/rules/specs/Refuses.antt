-- What demand 1 (00) asks of a call that can be refused: a list of conditions fixes the number that it answers with, and a
-- refused call leaves what it was handed.
-- Assumes nothing.
use Rattle.std.specs.Prelude.{◌≡◌, true, List, [], ◌∷◌, ◌⊎◌, ℕ, ◌<◌}
use Rattle.lists.specs.Member.{Member}
use Rattle.rules.specs.Condition.{Condition, ◌if◌, Given}
use Rattle.rules.specs.Order.{refusal_order, is_sublist}

-- the numbers of a list of conditions, in its order
unfoldable pub condition_numbers : List Condition → List ℕ
condition_numbers [] = []
condition_numbers ((n if holds) ∷ conditions) = n ∷ condition_numbers conditions

-- a call with these refusals and these conditions answers with the number n, 0 where it is not refused
pub record Refuses (numbers : List ℕ) (conditions : List Condition) (n : ℕ) (Left : Type 0) : Type 0 where
  -- the conditions' numbers are exactly these
  pub numbered : condition_numbers conditions ≡ numbers
  -- they are some of the order's numbers, in its order, so that the first is the lowest
  pub ordered : is_sublist numbers refusal_order ≡ true
  -- n is 0 or one of them
  pub among : (n ≡ 0) ⊎ Member n numbers
  -- n is the number of the first condition that holds, 0 where none does
  pub given : Given conditions n
  -- what a refused call leaves
  pub left : 0 < n → Left
