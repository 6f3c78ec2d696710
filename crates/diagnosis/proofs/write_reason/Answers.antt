-- `diagnosis::write_reason` meets its contract: each return stores the line that loading and checking lead to.
-- Assumes nothing.
use mathlib.Core.Path.{ap, sym, ap₂, refl, ◌∙◌}
use native.Mathlib.Omega.{arith}
use Rattle.refusals.proofs.Positive.{number_positive}
use Rattle.reasons.specs.Lines.{refused_line}
use Rattle.diagnosis.proofs.Pieces.{line_placed}
use Rattle.diagnosis.proofs.WholeLine.{file_line, file_read, judged_line_law, sheet_line}
use Rattle.diagnosis.proofs.write_reason.Goals as goal

pub returns-in-Err-clause-line : goal.returns-in-Err-clause-line
returns-in-Err-clause-line c =
    let told = c.write_refused.ensures in
    λ same.
    line_placed (omega arith) told
    (sheet_line _ _ c.in-Err.refusal c.in-Err.ensures.number _ _
    ∙ ap₂ refused_line (sym c.number.ensures) (sym c.sheet_spot-spot.ensures))

pub write_judged-requires-clause-file : goal.write_judged-requires-clause-file
write_judged-requires-clause-file c = (file_read _ _ c.in-Ok.ensures.number c.in-Ok.ensures.values c.in-Ok-check_in.ensures refl).0

pub write_judged-requires-clause-some : goal.write_judged-requires-clause-some
write_judged-requires-clause-some c = (file_read _ _ c.in-Ok.ensures.number c.in-Ok.ensures.values c.in-Ok-check_in.ensures refl).1

pub returns-in-Ok-check_in-clause-line : goal.returns-in-Ok-check_in-clause-line
returns-in-Ok-check_in-clause-line c =
    let told = c.write_judged.ensures in
    λ same.
    line_placed (omega arith) told
    (judged_line_law _ _ c.in-Ok.ensures.number c.in-Ok.ensures.values c.in-Ok-check_in.ensures refl _ _)

pub returns-in-Err-check_in-clause-line : goal.returns-in-Err-check_in-clause-line
returns-in-Err-check_in-clause-line c =
    let told = c.write_refused-in-Err-check_in.ensures in
    λ same.
    line_placed (omega arith) told
    (file_line _ _ c.in-Ok.ensures.number c.in-Ok.ensures.values c.in-Err-check_in.ensures
    (λ e. omega (arith, e, number_positive c.in-Err-check_in.refusal)) _ _
    ∙ rw (← c.number-number.ensures) (ap (refused_line _) (sym (c.file_spot-spot.ensures same))))
