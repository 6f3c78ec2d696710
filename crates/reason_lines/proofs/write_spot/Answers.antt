-- `reason_lines::write_spot` meets its contract: a number of 64 bits has at most 20 digits.
-- Assumes nothing.
use native.Mathlib.Omega.{arith}
use lib.ListN.{length-append}
use Rattle.encoding.specs.Text.{ascii}
use Rattle.encoding.proofs.Text.{decimal_length}
use Rattle.reasons.specs.Reason.{spot_text}
use Rattle.reason_lines.proofs.write_spot.Goals as goal

pub returns-in-At : goal.returns-in-At
unfolding spot_text
returns-in-At c =
    let digits = decimal_length 19 c.in-At.offset (omega arith) in
    rw c.in-At.is record { fitted = c.write_decimal.ensures; short = omega arith }

pub returns-in-Length : goal.returns-in-Length
unfolding spot_text ascii
returns-in-Length c =
    let digits = decimal_length 19 c.in-Length.found (omega arith) in
    rw c.in-Length.is record { fitted = c.write_numbered.ensures; short = simp length-append (omega arith) }
