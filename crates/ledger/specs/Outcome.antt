-- What checking gives, as the record that crosses to other languages.
-- Assumes nothing.
use Rattle.std.specs.Prelude.{ℕ, Option, Some, None, Result, Ok, Err}
use Rattle.refusals.specs.Number.{number}
use Rattle.refusals.specs.declared.Refusal.{Refusal}
use Rattle.ledgers.specs.declared.Checked.{Checked}

-- accepted, or the line that is rejected, or the number of a refusal
abbrev pub checked : Result (Option ℕ) Refusal → Checked
checked (Ok None) = record { accepted = 1; line = 0; refusal = 0 }
checked (Ok (Some line)) = record { accepted = 0; line = line; refusal = 0 }
checked (Err refusal) = record { accepted = 0; line = 0; refusal = number refusal }
