-- The conditions of a watch's refusals as facts (02, card 9; 01, "Turned back", 14 to 16 and 21), in order.
-- Assumes nothing.
use Rattle.std.specs.Prelude.{ℕ, ◌<◌, ◌⊎◌, ◌≢◌, List, [], ◌∷◌, ◌++◌, length, get_or}
use Rattle.types.specs.declared.Round.{Round}
use Rattle.rules.specs.Condition.{Condition, ◌if◌}
use Rattle.formats.specs.Sheet.{instance_of}
use Rattle.sigma.specs.Meaning.{Fits, Holds}
use Rattle.sigma.specs.Reads.{Differ}
use Rattle.sigma.specs.Refusals.{judge_conditions}
use Rattle.watches.specs.Window.{Nearest, no_round, window}
use Rattle.watches.specs.declared.Watch.{Watch}

-- the bytes that the watch holds are other than the sheet's: their length, or one of them
abbrev pub OtherBytes : List ℕ → Watch → Type 0
OtherBytes sheet w = (w.length ≢ length sheet) ⊎ Differ (length sheet) w.sheet sheet

-- the remembered round that a round names is not accepted: it does not fit the sheet, or the two sides of a row differ
abbrev pub NamesForged : List ℕ → Watch → Round → Type 0
NamesForged sheet w round =
    (b : ℕ) × Nearest sheet (window w) round b ×
    (¬ (Fits (instance_of sheet) (get_or (window w) b no_round) × Holds (instance_of sheet) (get_or (window w) b no_round)))

-- giving a watch a round; 21 is for a watch of other bytes, for one that counts more than 63 rounds, and for an accepted round that
-- names one that is not
abbrev pub watch_conditions : List ℕ → Watch → Round → List Condition
watch_conditions sheet w round =
    judge_conditions (instance_of sheet) round ++
    (21 if (OtherBytes sheet w ⊎ (63 < w.count) ⊎ (Holds (instance_of sheet) round × NamesForged sheet w round))) ∷ []
