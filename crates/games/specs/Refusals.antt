-- The conditions of the game's refusals as facts (02, card 12; 01, "Turned back", 12 to 14), in order, behind those of the sheet.
-- Assumes nothing.
use Rattle.std.specs.Prelude.{ℕ, ◌^◌, ◌<◌, ◌≡◌, ◌⊎◌, List, [], ◌∷◌, ◌++◌}
use Rattle.types.specs.declared.Header.{Header}
use Rattle.rules.specs.Condition.{Condition, ◌if◌}
use Rattle.formats.specs.FileCalls.{FileCalls}
use Rattle.formats.specs.Refusals.{round_conditions}
use Rattle.formats.specs.Sheet.{header_of, instance_of}
use Rattle.sigma.specs.Refusals.{Refusal14}

-- the game is too large: q^n exceeds 4,096 in kind 1, or m exceeds 4,096 or s is above 1 in kind 2
abbrev pub Refusal31 : Header → Type 0
Refusal31 h =
    ((h.kind ≡ 1) × (4096 < h.order ^ h.columns)) ⊎ ((h.kind ≡ 2) × ((4096 < h.modulus) ⊎ (1 < h.rows)))

module _ (files : FileCalls) where
  open files use {fetch_round}

  -- the commitment that Peggy names: that of round 0, as the read call gives it
  abbrev pub named : List ℕ → List ℕ → List ℕ
  named sheet f = (fetch_round sheet f 0).round.commitment

  -- what is asked of a file, of its round 0, of the commitment and of the sheet's size; neither c nor r of the round is
  abbrev pub game_conditions : List ℕ → List ℕ → List Condition
  game_conditions sheet f =
      round_conditions (header_of sheet) f 0 ++
      (14 if Refusal14 (instance_of sheet) (named sheet f)) ∷ (31 if Refusal31 (header_of sheet)) ∷ []
