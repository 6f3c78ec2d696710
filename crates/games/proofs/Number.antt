-- The game's number: that of 01's check of round 0, and else that of the commitment or of the sheet's size.
-- Assumes nothing.
use Prim.Native.Nat.{ℕ, ◌<◌}
use mathlib.Core.Path.{◌≡◌, sym, ap, ◌∙◌}
use mathlib.Core.List.{List, [], ◌∷◌, ◌++◌, append_assoc}
use native.Mathlib.Omega.{arith}
use Rattle.rules.specs.Call.{number_of}
use Rattle.rules.specs.Rule.{Rule, ◌when◌, lowest}
use Rattle.rules.proofs.Determined.{either}
use Rattle.rules.proofs.Lowest.{lowest_earlier, lowest_later_zero}
use Rattle.formats.specs.Load.{load_rules, on_sheet}
use Rattle.formats.specs.RoundCalls.{check_round, checking}
use Rattle.formats.specs.Sheet.{header_of, instance_of}
use Rattle.formats.proofs.Files.{check_number}
use Rattle.formats.proofs.Positive.{check_positive}
use Rattle.sigma.specs.Round.{bad_commitment}
use Rattle.games.specs.Text.{bad_game, game_refusal, game_rules, named_commitment}

module _ (sheet f : List ℕ) where
  -- what is asked behind the check
  abbrev pub own_rules : List Rule
  own_rules = (14 when bad_commitment (instance_of sheet) (named_commitment sheet f)) ∷ (31 when bad_game (header_of sheet)) ∷ []

  -- the check's rules come first
  checked_first : game_refusal sheet f ≡ lowest (load_rules sheet ++ (checking (header_of sheet) f 0).refusals ++ own_rules)
  unfolding game_refusal game_rules
  checked_first = ap lowest (sym (append_assoc (load_rules sheet) (checking (header_of sheet) f 0).refusals own_rules))

  -- what the check refuses is refused with its number
  pub number_checked : 0 < check_round sheet f 0 → game_refusal sheet f ≡ check_round sheet f 0
  unfolding number_of
  number_checked some =
      let number = check_number sheet f 0 in
      checked_first ∙ lowest_earlier (on_sheet sheet (checking (header_of sheet) f 0)).refusals own_rules (rw number at some) ∙ sym number

  -- else the game's own rules give the number
  pub number_own : check_round sheet f 0 ≡ 0 → game_refusal sheet f ≡ lowest own_rules
  unfolding number_of
  number_own none =
      checked_first
      ∙ lowest_later_zero (on_sheet sheet (checking (header_of sheet) f 0)).refusals own_rules (check_positive sheet f 0)
      (sym (check_number sheet f 0) ∙ none)

  -- what is not refused is checked
  pub number_none : game_refusal sheet f ≡ 0 → check_round sheet f 0 ≡ 0
  number_none none =
      either (check_round sheet f 0) (λ checked. checked) (λ some. absurd (omega (arith, number_checked some, none, some)))
