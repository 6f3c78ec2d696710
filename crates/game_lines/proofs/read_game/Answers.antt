-- `game_lines::read_game` meets its contract: a refusal is the game's, in the order of its rules.
-- Assumes nothing.
use Rattle.std.proofs.lemmas.Result.{err_from_is_err_and}
use Rattle.instance.specs.Values.{values_of}
use Rattle.game_lines.proofs.WholeText.{commitment_named, file_refused, own_clear, own_number, sheet_refused}
use Rattle.game_lines.proofs.read_game.Goals as goal

pub returns-in_err-sheet-clause-number : goal.returns-in_err-sheet-clause-number
returns-in_err-sheet-clause-number c =
    let passed_on = err_from_is_err_and c.from_residual.result c.from_residual.ensures.1 in
    rw (passed_on.1, passed_on.2) (sheet_refused _ _ c.in_err-sheet.field-0.0 c.in_err-sheet.ensures.number)

pub returns-in_err-round-clause-number : goal.returns-in_err-round-clause-number
returns-in_err-round-clause-number c =
    let passed_on = err_from_is_err_and c.from_residual-in_err-round.result c.from_residual-in_err-round.ensures.1 in
    rw (passed_on.1, passed_on.2)
    (file_refused _ _ c.in_ok-sheet.ensures.number c.in_ok-sheet.ensures.values c.in_err-round.field-0.0 c.in_err-round.ensures)

pub returns-in_err-test_game-clause-number : goal.returns-in_err-test_game-clause-number
returns-in_err-test_game-clause-number c =
    let passed_on = err_from_is_err_and c.from_residual-in_err-test_game.result c.from_residual-in_err-test_game.ensures.1 in
    rw (passed_on.1, passed_on.2)
    (own_number _ _ c.in_ok-sheet.ensures.number c.in_ok-sheet.ensures.values c.in_ok-round.ensures c.in_err-test_game.ensures)

pub returns-clause-number : goal.returns-clause-number
returns-clause-number c = own_number _ _ c.in_ok-sheet.ensures.number c.in_ok-sheet.ensures.values c.in_ok-round.ensures c.in_ok-test_game.ensures

pub returns-clause-named : goal.returns-clause-named
returns-clause-named c = commitment_named _ _ c.in_ok-sheet.ensures.number c.in_ok-sheet.ensures.values c.in_ok-round.ensures

pub returns-clause-small : goal.returns-clause-small
returns-clause-small c = (own_clear (values_of c.in_ok-sheet.sheet) c.in_ok-round.round.commitment c.in_ok-test_game.ensures).1

pub returns-clause-elements : goal.returns-clause-elements
returns-clause-elements c = (own_clear (values_of c.in_ok-sheet.sheet) c.in_ok-round.round.commitment c.in_ok-test_game.ensures).0
