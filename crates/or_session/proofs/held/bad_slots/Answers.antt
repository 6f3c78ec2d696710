-- `or_session::held::bad_slots` meets its contract: it is both searches, one after the other, each by its own sheet.
-- Assumes nothing.
use mathlib.Core.Path.{sym, ◌∙◌}
use Rattle.or_session.proofs.SideTests.{few_own, slots_first, slots_second}
use Rattle.or_session.proofs.held.bad_slots.Goals as goal

pub some_non_coordinate-requires : goal.some_non_coordinate-requires
some_non_coordinate-requires c =
    let few = few_own _ _ _ c.own-mine.ensures c.requires in
    (few.0, few.2)

pub returns-then-some_non_coordinate : goal.returns-then-some_non_coordinate
returns-then-some_non_coordinate c = λ entries entries' z z'.
    c.if-some_non_coordinate.true
    ∙ slots_first _ _ _ _ _ c.own-mine.ensures (sym c.some_non_coordinate.ensures ∙ c.if-some_non_coordinate.true)

pub some_non_coordinate-requires-else-some_non_coordinate : goal.some_non_coordinate-requires-else-some_non_coordinate
some_non_coordinate-requires-else-some_non_coordinate c =
    let (few, few') = c.requires in
    let yours = few_own _ _ _ c.own-yours.ensures (few', few) in
    (yours.0, yours.2)

pub returns-else-some_non_coordinate : goal.returns-else-some_non_coordinate
returns-else-some_non_coordinate c = λ entries entries' z z'.
    c.some_non_coordinate-else-some_non_coordinate.ensures
    ∙ slots_second _ _ _ _ _ c.own-mine.ensures (sym c.some_non_coordinate.ensures ∙ c.if-some_non_coordinate.false)
    c.own-yours.ensures
