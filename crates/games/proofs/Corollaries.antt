-- What is true of the game's text beside what 02 asks, of the definition.
-- Assumes nothing.
use Rattle.games.specs.Corollaries.{GameCorollaries}
use Rattle.games.specs.Ours.{game_calls}
use Rattle.games.proofs.Cut.{text_cut}
use Rattle.games.proofs.Length.{text_short}

pub game_corollaries : GameCorollaries game_calls
game_corollaries = record { short = text_short; kept = text_cut }
