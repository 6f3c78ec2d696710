-- The marker's lines (01, "The marker's lines") on loaded values and a round file.
-- Assumes nothing.
use Rattle.std.specs.Prelude.{ℕ, Bool, not}
use mathlib.Core.List.{List, flatten}
use Rattle.types.specs.declared.Verdict.{Verdict}
use Rattle.numbers.specs.Search.{any}
use Rattle.lists.specs.Places.{tabulate}
use Rattle.sigma.specs.Answer.{is_accepted}
use Rattle.sigma.specs.Instance.{Instance}
use Rattle.sigma.specs.Judge.{judge_loaded}
use Rattle.formats.specs.RoundFile.{challenge_width, record_start, round_at}
use Rattle.runs.specs.Marker.{verdict_line}

-- the verdict on the values in record k
unfoldable pub verdict_in : Instance → List ℕ → ℕ → Verdict
verdict_in inst f k = judge_loaded inst (round_at (challenge_width f) inst.header f (record_start (challenge_width f) inst.header k))

-- the lines of the first n records
unfoldable pub lines_in : Instance → List ℕ → ℕ → List ℕ
lines_in inst f n = flatten (tabulate n (λ k. verdict_line k (verdict_in inst f k)))

-- whether one of them is not accepted
unfoldable pub fails_in : Instance → List ℕ → ℕ → Bool
fails_in inst f n = any n (λ k. not (is_accepted (verdict_in inst f k)))
