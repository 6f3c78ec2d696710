-- `game_lines::game_files` meets its contract: the arrays hold one byte more than the longest sheet and the longest round file have.
-- Assumes nothing.
use mathlib.Core.Path.{◌∙◌}
use native.Mathlib.Omega.{arith}
use lib.ListN.{length}
use Rattle.game_lines.proofs.Front.{whole_text}
use Rattle.game_lines.proofs.game_files.Goals as goal

pub returns-clause-whole : goal.returns-clause-whole
returns-clause-whole c =
    let args = c.args in
    let sheet = c.as_slice.ensures in
    let rounds = c.as_slice-2.ensures in
    λ s f is-sheet is-file.
    whole_text (length args.sheet.now.bytes) (length args.rounds.now.bytes) (omega arith) (omega arith) args.text.now
    {r = c.game.result} c.game.ensures.answer c.game.ensures.bytes s f (sheet.slice ∙ is-sheet) (rounds.slice ∙ is-file)
