-- `game_lines::test_game` meets its contract: the tests are its two rules, in their order.
-- Assumes nothing.
use mathlib.Core.Path.{sym, ◌∙◌}
use Rattle.rules.proofs.Lowest.{lowest_clear, pass, stop}
use Rattle.game_lines.proofs.test_game.Goals as goal

pub returns-then-some_non_element : goal.returns-then-some_non_element
returns-then-some_non_element c = sym (stop 14 _ (sym c.some_non_element.ensures ∙ c.if-some_non_element.true))

pub returns-then-too_large : goal.returns-then-too_large
returns-then-too_large c =
    let elements = sym c.some_non_element.ensures ∙ c.if-some_non_element.false in
    sym (pass 14 _ elements ∙ stop 31 _ (sym c.too_large.ensures ∙ c.if-too_large.true))

pub returns : goal.returns
returns c =
    let elements = sym c.some_non_element.ensures ∙ c.if-some_non_element.false in
    let small = sym c.too_large.ensures ∙ c.if-too_large.false in
    sym (lowest_clear _ (elements, (small, tt)))
