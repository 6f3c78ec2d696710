-- `diagnosis::reason` meets its contract: the bytes at hand are the whole files.
-- Assumes nothing.
use mathlib.Core.Logic.Iff
use Rattle.diagnosis.proofs.WholeFiles.{reason_stored}
use Rattle.diagnosis.proofs.reason.Goals as goal

pub returns : goal.returns
returns c =
    let both = reason_stored _ _ (c.write_reason.ensures.line Iff.rfl) in
    record { inside = c.write_reason.ensures.inside; answer = both.0; bytes = both.1 }
