-- `reason_lines::write_refused` meets its contract: the parts of the line stand one after the other, and are short.
-- Assumes nothing.
use native.Mathlib.Omega.{arith}
use lib.ListN.{length-append}
use Rattle.encoding.specs.Text.{ascii}
use Rattle.encoding.proofs.Fitted.{fitted_then}
use Rattle.encoding.proofs.Text.{decimal_length}
use Rattle.reason_lines.proofs.write_refused.Goals as goal

pub returns : goal.returns
unfolding ascii
returns c =
    let digits = decimal_length 9 c.args.number (omega (arith, c.ranges.number.fits)) in
    let front = fitted_then c.write_numbered-space.ensures c.write_word-place.ensures in
    record {
      fitted = fitted_then (fitted_then front c.write_spot-end.ensures.fitted) c.write_word.ensures;
      short = simp length-append (omega (arith, c.write_spot-end.ensures.short));
    }
