-- The line on round 0 of a file that reads (02, card 1), on loaded values.
-- Assumes nothing.
use Rattle.std.specs.Prelude.{ℕ, List}
use Rattle.types.specs.declared.Round.{Round}
use Rattle.sigma.specs.Image.{image}
use Rattle.sigma.specs.Instance.{Instance, table_of}
use Rattle.sigma.specs.Judge.{judge_loaded}
use Rattle.sigma.specs.Round.{expected_image}
use Rattle.formats.specs.RoundFile.{challenge_width, round_at}
use Rattle.reasons.specs.Reason.{line_text, round_spot}

-- the line on the values in the record that begins at 7
unfoldable pub judged_line : Instance → List ℕ → List ℕ
judged_line inst f =
    let round : Round = round_at (challenge_width f) inst.header f 7 in
    line_text (judge_loaded inst round) (round_spot inst.header f) (image (table_of inst) round.response)
    (expected_image inst round.commitment round.challenge)
