-- The game's text as it is defined, by the definition that its contract cites, and the words on calls of 01's.
-- Assumes nothing.
use Rattle.std.specs.Prelude.{ℕ, List}
use Rattle.rules.specs.Condition.{Condition}
use Rattle.formats.specs.Ours.{file_calls}
use Rattle.runs.specs.Ours.{run_calls}
use Rattle.games.specs.Game.{Answers as AnswersBy, AnswersAll as AnswersAllBy, Game as GameBy}
use Rattle.games.specs.GameCalls.{GameCalls}
use Rattle.games.specs.Prints.{AnswersOf as AnswersOfBy, Smallest as SmallestBy}
use Rattle.games.specs.Refusals.{game_conditions as game_conditions_by}
use Rattle.games.specs.Text.{game_text}

abbrev pub game_calls : GameCalls
game_calls = record { game_text = game_text }

abbrev pub Answers : List ℕ → List ℕ → ℕ → Type 0
Answers sheet t c = AnswersBy run_calls sheet t c

abbrev pub AnswersAll : List ℕ → List ℕ → Type 0
AnswersAll sheet t = AnswersAllBy run_calls sheet t

abbrev pub Game : List ℕ → Type 0
Game sheet = GameBy run_calls sheet

abbrev pub Smallest : List ℕ → List ℕ → ℕ → List ℕ → Type 0
Smallest sheet t c r = SmallestBy run_calls sheet t c r

abbrev pub AnswersOf : List ℕ → List ℕ → List ℕ → (ℕ → List ℕ) → Type 0
AnswersOf sheet t challenges response = AnswersOfBy run_calls sheet t challenges response

abbrev pub game_conditions : List ℕ → List ℕ → List Condition
game_conditions sheet f = game_conditions_by file_calls sheet f
