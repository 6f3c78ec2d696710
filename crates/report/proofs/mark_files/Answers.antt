-- `report::mark_files` meets its contract: the arrays hold one byte more than the longest sheet, the longest round file and a
-- level have.
-- Assumes nothing.
use mathlib.Core.Path.{◌∙◌}
use native.Mathlib.Omega.{arith}
use lib.ListN.{length}
use Rattle.report.proofs.Front.{whole_text}
use Rattle.report.proofs.mark_files.Goals as goal

pub returns-clause-whole : goal.returns-clause-whole
returns-clause-whole c =
    let args = c.args in
    let sheet = c.as_slice.ensures in
    let rounds = c.as_slice-2.ensures in
    let level = c.as_slice-3.ensures in
    λ s f w is-sheet is-file is-level.
    whole_text (length args.sheet.now.bytes) (length args.rounds.now.bytes) (length args.level.now.bytes)
    (omega arith) (omega arith) (omega arith) args.text.now {r = c.mark.result}
    c.mark.ensures.answer c.mark.ensures.bytes s f w
    (sheet.slice ∙ is-sheet) (rounds.slice ∙ is-file) (level.slice ∙ is-level)
