-- `watch_parts::bytes::is_watched` meets its contract: the lengths are compared first, and then the bytes. Assumes nothing.
use native.Mathlib.Omega.{arith}
use Rattle.std.proofs.lemmas.Bool.Decides.{Decides-eqb}
use Rattle.std.proofs.lemmas.Slice.Eq.{slice_eq-Decides}
use Rattle.watch_parts.proofs.HeldBytes.{other_length, same_length}
use Rattle.watch_parts.proofs.bytes.is_watched.Goals as goal

pub returns-then-size-sheet : goal.returns-then-size-sheet
returns-then-size-sheet c =
    same_length c.args.watch.now _ (omega arith) (omega arith) _ (slice_eq-Decides Decides-eqb _ _ _ c.eq.ensures)

pub returns-else-size-sheet : goal.returns-else-size-sheet
returns-else-size-sheet c = other_length c.args.watch.now _ (λ same. omega arith)
