-- What comparing two commitments gives, as the record that crosses to other languages.
-- Assumes nothing.
use Rattle.std.specs.Prelude.{Bool, cond, Result, Ok, Err}
use Rattle.formats.specs.declared.Compared.{Compared}
use Rattle.refusals.specs.declared.Refusal.{Refusal}
use Rattle.refusals.specs.Number.{number}

-- the record of whether two commitments agree: 0 beside a refusal's number
abbrev pub compared : Result Bool Refusal → Compared
compared (Ok same) = record { same = cond same 1 0; refusal = 0 }
compared (Err refusal) = record { same = 0; refusal = number refusal }
