-- The level (02, card 3): its number by its one byte, and the power that it asks for by one number less.
-- Assumes nothing.
use Prim.Native.Nat.{ℕ, ◌+◌, ◌^◌, ◌≤◌}
use mathlib.Core.Path.{◌≡◌, sym, ◌∙◌}
use mathlib.Core.Logic.{◌≢◌}
use mathlib.Core.Bool.{Bool, true, false}
use mathlib.Core.List.{List, [], ◌∷◌}
use native.Mathlib.Decide.{dec_lt}
use native.Mathlib.Omega.{arith}
use lib.Dec.{leb, ltb}
use lib.ListN.{length}
use borrow.Author.Tests.{le-leb, le-ltb, lt-leb, lt-ltb}
use Rattle.rules.specs.Rule.{◌when◌, lowest}
use Rattle.rules.proofs.Lowest.{clear_lowest, lowest_clear, pass, stop}
use Rattle.rules.proofs.Says.{says_elim, says_false}
use Rattle.runs.specs.Level.{bad_level, level_of, strong_enough, Refusal25}
use Rattle.runs.proofs.Level.{level_passes, says_bad_level}

module _ (level : List ℕ) where
  -- a level that is no byte from 1 to 64 gives 25
  pub bad_number : Refusal25 level → lowest ((25 when bad_level level) ∷ []) ≡ 25
  bad_number refused = stop 25 [] ((says_bad_level level).complete refused)

  -- one that is gives 0
  pub good_number : length level ≡ 1 → 1 ≤ level_of level → level_of level ≤ 64 → lowest ((25 when bad_level level) ∷ []) ≡ 0
  good_number size some few = pass 25 [] ((level_passes level).1 (size, some, few)) ∙ lowest_clear [] tt

  module _ {number : ℕ} (is_number : number ≡ lowest ((25 when bad_level level) ∷ [])) where
    -- a level that gives 0 is not refused
    pub level_good : number ≡ 0 → bad_level level ≡ false
    level_good none = (clear_lowest ((25 when bad_level level) ∷ []) tt (sym is_number ∙ none)).0

    -- any other is, with 25
    pub level_bad : number ≢ 0 → (bad_level level ≡ true) × (number ≡ 25)
    level_bad some =
        says_elim (says_bad_level level)
        (λ refused. ((says_bad_level level).complete refused, is_number ∙ bad_number refused))
        (λ fine. absurd (some (is_number ∙ pass 25 [] ((says_false (says_bad_level level)).1 fine) ∙ lowest_clear [] tt)))

-- a power is at least 2^w exactly where it is above the number one below
above_below : (below power n : ℕ) → below + 1 ≡ n → ltb below power ≡ leb n power
above_below below power n e = elim (dec_lt below power) [
  | yes above ↦ lt-ltb below power above ∙ sym (le-leb n power (omega arith))
  | no under ↦ le-ltb below power (omega arith) ∙ sym (lt-leb n power (omega arith))
]

-- so rounds are enough for a level where the power is above it
pub enough_above : (challenges count w below : ℕ) {above : Bool} → below + 1 ≡ 2 ^ w → above ≡ ltb below (challenges ^ count)
    → above ≡ strong_enough challenges count w
unfolding strong_enough
enough_above challenges count w below e given = given ∙ above_below below (challenges ^ count) (2 ^ w) e
