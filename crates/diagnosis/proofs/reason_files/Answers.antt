-- `diagnosis::reason_files` meets its contract: the arrays hold one byte more than the longest sheet and the longest round file
-- have.
-- Assumes nothing.
use mathlib.Core.Path.{sym, ◌∙◌}
use native.Mathlib.Omega.{arith}
use lib.ListN.{length}
use Rattle.diagnosis.proofs.WholeFiles.{whole_line}
use Rattle.diagnosis.proofs.reason_files.Goals as goal

pub returns-clause-whole : goal.returns-clause-whole
returns-clause-whole c =
    let args = c.args in
    let sheet = c.as_slice.ensures in
    let rounds = c.as_slice-2.ensures in
    λ s f is-sheet size is-rounds size'.
    whole_line (length args.sheet.now.kept.bytes) (length args.rounds.now.kept.bytes) (omega arith) (omega arith)
    c.length.result c.length-2.result c.write_reason.ensures.line s f
    (sheet.slice ∙ is-sheet) (size ∙ sym c.length.ensures) (rounds.slice ∙ is-rounds) (size' ∙ sym c.length-2.ensures)
