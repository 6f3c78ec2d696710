-- `watch::calls::hear` meets its contract: a refused sheet's number is the answer, else what is told on its values, and an accepted
-- round is remembered.
-- Assumes nothing.
use mathlib.Core.Path.{◌≡◌, sym}
use mathlib.Core.List.{[]}
use Rattle.lists.specs.Places.{zeros8}
use Rattle.formats.proofs.LongFiles.{loads_short}
use Rattle.instance.specs.Values.{values_of}
use Rattle.instance.proofs.SheetLoads.{loaded_call, refused_number}
use Rattle.watches.specs.Watch.{watch_after, watch_round}
use Rattle.watches.specs.declared.Watched.{Watched}
use Rattle.watch.specs.Told.{told_of}
use Rattle.watch.proofs.Answering.{watch_after_clear, watch_after_refused, accepted_answer, other_answer}
use Rattle.watch.proofs.calls.hear.Goals as goal
use Rattle.watch.proofs.calls.hear.Goals.{After-hear_loaded-told}

-- the answer on the loaded values
abbrev on_values : After-hear_loaded-told → Watched
on_values c =
    let args = c.args in
    watch_after [] args.sheet.now (values_of c.in-Ok.loaded) args.watch args.round

-- what is told is of that answer
told_on_values : (c : After-hear_loaded-told) → c.hear_loaded-told.result ≡ told_of (on_values c)
told_on_values c = c.hear_loaded-told.ensures _ c.is_watched-watched.ensures

-- and that answer is the call's
called : (c : After-hear_loaded-told) {answer : Watched} → answer ≡ on_values c
    → let args = c.args in answer ≡ watch_round args.sheet.now args.watch args.round
unfolding watch_round
called c =
    let args = c.args in
    loaded_call _ c.in-Ok.ensures.number c.in-Ok.ensures.values
    (λ before inst none. watch_after_clear args.sheet.now args.watch args.round before inst none)

pub returns-in-Err : goal.returns-in-Err
unfolding watch_round zeros8
returns-in-Err c =
    let (number, some) = refused_number _ c.in-Err.refusal c.in-Err.ensures.number in
    rw (c.number.ensures, number) (sym (watch_after_refused _ _ _ _ _ some))

pub is_watched-watched-requires : goal.is_watched-watched-requires
is_watched-watched-requires c = loads_short _ (sym c.in-Ok.ensures.number)

pub padded-requires : goal.padded-requires
padded-requires c =
    let table = c.in-Ok.loaded.valid.table in
    (table.few_rows, table.few_columns)

pub returns-in-Accepted : goal.returns-in-Accepted
returns-in-Accepted c =
    called (goal.at.returns-in-Accepted c).After-hear_loaded-told
    (accepted_answer _ _ _ _ (told_on_values (goal.at.returns-in-Accepted c).After-hear_loaded-told) c.in-Accepted.is c.padded.ensures c.behind-next.ensures
    c.one_more.ensures)

pub returns-in_default : goal.returns-in_default
returns-in_default c =
    called (goal.at.returns-in_default c).After-hear_loaded-told (other_answer _ _ _ _ (told_on_values (goal.at.returns-in_default c).After-hear_loaded-told) c.in_default.not-Accepted)
