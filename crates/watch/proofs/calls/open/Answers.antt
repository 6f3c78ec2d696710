-- `watch::calls::open` meets its contract: a refused sheet's number is the answer, else the watch holds the sheet's bytes.
-- Assumes nothing.
use mathlib.Core.Path.{sym}
use Rattle.formats.proofs.LongFiles.{loads_short}
use Rattle.instance.proofs.SheetLoads.{refused_number}
use Rattle.watch.proofs.Opening.{open_refused, open_clear}
use Rattle.watch.proofs.calls.open.Goals as goal

pub returns-in-Err : goal.returns-in-Err
returns-in-Err c =
    let (number, some) = refused_number _ c.in-Err.refusal c.in-Err.ensures.number in
    rw c.number.ensures (open_refused _ number some c.fresh-in-Err.ensures)

pub held_bytes-requires : goal.held_bytes-requires
held_bytes-requires c = loads_short _ (sym c.in-Ok.ensures.number)

pub returns-in-Ok : goal.returns-in-Ok
returns-in-Ok c = open_clear _ (sym c.in-Ok.ensures.number) c.held_bytes.ensures c.fresh.ensures
