use Prim.Native.Nat.{◌<◌}
use mathlib.Core.Path.{◌≡◌, refl, sym, ◌∙◌}
use native.Mathlib.Omega.{arith}
use Rattle.encoding.specs.Text.{ascii}
use Rattle.runs.specs.Marker.{newline}
use Rattle.solver.proofs.Found.{found_is, none_found}
use Rattle.answer_lines.proofs.LineByLine.{line_fitted, line_passed, lines_fitted, no_lines, none_fitted}
use Rattle.answer_lines.proofs.write_answers.Goals.{in-Some, in_default}
use Rattle.answer_lines.proofs.write_answers.Goals as goal

pub loop-c-init : goal.loop-c-init
loop-c-init c = (no_lines _ _ _, refl)

pub write_answer-next-requires-clause-found : goal.write_answer-next-requires-clause-found
write_answer-next-requires-clause-found c =
    let sheet = c.args.sheet.now in
    let below : c.loop-c.c < sheet.header.challenges = omega arith in
    let searched = c.first_answer.ensures sheet.entries sheet.valid c.requires.elements below c.table_of.ensures in
    (found_is (sym c.in-Some.is ∙ searched)).1

pub loop-c-preserved : goal.loop-c-preserved
loop-c-preserved c =
    let sheet = c.args.sheet.now in
    let below : c.loop-c.c < sheet.header.challenges = omega arith in
    let searched = c.first_answer.ensures sheet.entries sheet.valid c.requires.elements below c.table_of.ensures in (
      elim c.match-first_answer.branch [
        | in-Some w ↦
            rw (w.text-is, w.next-is) (line_fitted _ _ _ c.loop-c.invariant.0
            (found_is (sym w.in-Some.is ∙ searched)).0 w.write_answer-next.ensures)
        | in_default w ↦
            rw (w.text-is, w.next-is) (line_passed _ _ _ c.loop-c.invariant.0 (none_found (sym w.in_default.is ∙ searched)))
      ],
      omega arith,
    )

pub returns-then-next-eq0 : goal.returns-then-next-eq0
unfolding ascii newline
returns-then-next-eq0 c =
    let whole : c.loop-c.c ≡ c.args.sheet.now.header.challenges = omega arith in
    none_fitted _ _ c.loop-c.invariant.0 whole c.if-next-eq0.true c.write_word.ensures

pub returns : goal.returns
returns c =
    let whole : c.loop-c.c ≡ c.args.sheet.now.header.challenges = omega arith in
    lines_fitted _ _ c.loop-c.invariant.0 whole c.if-next-eq0.false
