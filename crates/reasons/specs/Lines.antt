-- The lines by their parts: of a refusal and of a rejected round.
-- Assumes nothing.
use Rattle.std.specs.Prelude.{ℕ}
use mathlib.Core.List.{List, ◌++◌, flatten, map}
use Rattle.encoding.specs.Text.{ascii, decimal}
use Rattle.sigma.specs.Answer.{rows_of}
use Rattle.reasons.specs.declared.Spot.{Spot}
use Rattle.reasons.specs.Reason.{row_text, spot_text}

-- a refusal's number and its spot
abbrev pub refused_line : ℕ → Spot → List ℕ
refused_line number spot = ascii "refused " ++ decimal number ++ ascii " " ++ spot_text spot ++ ascii "\n"

-- the rows of a mask, each with the values of its two sides
abbrev pub rejected_line : ℕ → List ℕ → List ℕ → List ℕ
rejected_line mask left right = ascii "rejected" ++ flatten (map (row_text left right) (rows_of mask)) ++ ascii "\n"
