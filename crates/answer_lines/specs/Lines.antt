-- The lines of the game (02, card 12), challenge by challenge.
-- Assumes nothing.
use Rattle.std.specs.Prelude.{ℕ, cond, ltb}
use mathlib.Core.List.{List, [], ◌++◌, flatten, map}
use Rattle.types.specs.declared.Header.{Header}
use Rattle.lists.specs.Choices.{selected}
use Rattle.encoding.specs.Text.{decimal}
use Rattle.runs.specs.Marker.{newline, row_word}
use Rattle.sigma.specs.Instance.{Instance}
use Rattle.games.specs.Text.{answer_line, candidate, candidates, is_answered}

-- the line of the challenge c that candidate k answers, nothing if k is beyond the candidates
unfoldable pub line_at : Header → ℕ → ℕ → List ℕ
line_at h c k = cond (ltb k (candidates h)) (decimal c ++ flatten (map row_word (candidate h k)) ++ newline) []

-- the lines of the first n challenges
unfoldable pub lines_below : Instance → List ℕ → ℕ → List ℕ
lines_below inst t n = flatten (map (answer_line inst t) (selected n (is_answered inst t)))
