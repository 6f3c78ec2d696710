-- `game_lines::game` meets its contract: each arm stores the text that the game or its refusal leads to, which has room in 720,896
-- bytes.
-- Assumes nothing.
use native.Mathlib.Omega.{arith}
use Rattle.encoding.specs.Text.{ascii}
use Rattle.solver.proofs.Sizes.{small_header}
use Rattle.game_lines.proofs.WholeText.{answers_text, refusal_line, text_stored}
use Rattle.game_lines.proofs.game.Goals as goal

pub write_answers-requires-clause-small : goal.write_answers-requires-clause-small
write_answers-requires-clause-small c = small_header c.in-Ok.played.sheet.valid.table c.in-Ok.ensures.small

pub returns-in-Ok-clause-answer : goal.returns-in-Ok-clause-answer
returns-in-Ok-clause-answer c =
    let told = c.in-Ok.ensures in
    (text_stored _ _ (omega arith) (answers_text _ _ told.number told.values told.named) c.write_answers.ensures).1.0

pub returns-in-Ok-clause-bytes : goal.returns-in-Ok-clause-bytes
returns-in-Ok-clause-bytes c =
    let told = c.in-Ok.ensures in
    (text_stored _ _ (omega arith) (answers_text _ _ told.number told.values told.named) c.write_answers.ensures).1.1

pub returns-in-Err-clause-answer : goal.returns-in-Err-clause-answer
unfolding ascii
returns-in-Err-clause-answer c =
    let line = refusal_line _ _ c.in-Err.refusal c.in-Err.ensures.number c.number.ensures in
    (text_stored _ _ (omega arith) line c.write_line.ensures).1.0

pub returns-in-Err-clause-bytes : goal.returns-in-Err-clause-bytes
unfolding ascii
returns-in-Err-clause-bytes c =
    let line = refusal_line _ _ c.in-Err.refusal c.in-Err.ensures.number c.number.ensures in
    (text_stored _ _ (omega arith) line c.write_line.ensures).1.1
