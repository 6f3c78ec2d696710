-- What the game's tests say (02, card 12; refusals 12 to 14 and 31), and that its rules test its conditions.
-- Assumes nothing.
use Prim.Native.Nat.{ℕ, ◌^◌}
use mathlib.Core.Path.{refl}
use mathlib.Core.List.{List, [], ◌∷◌, ◌++◌}
use Rattle.types.specs.declared.Header.{Header}
use Rattle.rules.specs.Condition.{Tests, ◌if◌}
use Rattle.rules.specs.Rule.{◌when◌}
use Rattle.rules.specs.Says.{Says}
use Rattle.rules.proofs.Condition.{tests_append}
use Rattle.rules.proofs.Says.{says_and, says_equal, says_less, says_or}
use Rattle.formats.specs.Load.{load_rules}
use Rattle.formats.specs.Refusals.{load_conditions, round_conditions}
use Rattle.formats.specs.RoundCalls.{checking}
use Rattle.formats.specs.Sheet.{header_of, instance_of}
use Rattle.formats.proofs.Refusals.{load_tests, round_tests}
use Rattle.sigma.specs.Refusals.{Refusal14}
use Rattle.sigma.specs.Round.{bad_commitment}
use Rattle.sigma.proofs.Tests.{says_bad_commitment}
use Rattle.games.specs.Ours.{game_conditions}
use Rattle.games.specs.Refusals.{Refusal31}
use Rattle.games.specs.Text.{bad_game, game_rules, named_commitment}

-- 31: q^n exceeds 4,096 in kind 1, or m exceeds 4,096 or s is above 1 in kind 2
pub says_bad_game : (h : Header) → Says (bad_game h) (Refusal31 h)
unfolding bad_game
says_bad_game h =
    says_or (says_and (says_equal h.kind 1) (says_less _ (h.order ^ h.columns)))
    (says_and (says_equal h.kind 2) (says_or (says_less _ h.modulus) (says_less _ h.rows)))

-- the game's rules test its conditions
pub game_tests : (sheet f : List ℕ) → Tests (game_rules sheet f) (load_conditions sheet ++ game_conditions sheet f)
unfolding game_rules named_commitment
game_tests sheet f =
    let inst = instance_of sheet in
    let t = named_commitment sheet f in
    tests_append (load_rules sheet)
    ((checking (header_of sheet) f 0).refusals ++ (14 when bad_commitment inst t) ∷ (31 when bad_game (header_of sheet)) ∷ [])
    (load_conditions sheet) (game_conditions sheet f) (load_tests sheet)
    (tests_append (checking (header_of sheet) f 0).refusals ((14 when bad_commitment inst t) ∷ (31 when bad_game (header_of sheet)) ∷ [])
    (round_conditions (header_of sheet) f 0) ((14 if Refusal14 inst t) ∷ (31 if Refusal31 (header_of sheet)) ∷ [])
    (round_tests (header_of sheet) f 0)
    (refl, says_bad_commitment inst t, (refl, says_bad_game (header_of sheet), tt)))
