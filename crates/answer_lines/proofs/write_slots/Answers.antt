use Prim.Native.Nat.{◌<◌}
use mathlib.Core.Path.{◌≡◌, refl}
use native.Mathlib.Omega.{arith}
use lib.ListN.{length-take}
use Rattle.std.proofs.lemmas.List.{get_or-take}
use Rattle.answer_lines.proofs.LineByLine.{no_slots, slot_fitted}
use Rattle.answer_lines.proofs.write_slots.Goals as goal

pub loop-value-init : goal.loop-value-init
loop-value-init c = (no_slots _ _ _, refl)

pub loop-value-preserved : goal.loop-value-preserved
loop-value-preserved c =
    let at = c.loop-value.value-index in
    let values = c.args.values in
    let inside : at < c.args.n = omega (arith, length-take c.args.n values) in
    let (slots, size) = c.loop-value.invariant in
    (slot_fitted _ _ slots (rw (get_or-take c.args.n values at 0 inside) at c.write_slot-next.ensures), omega arith)

pub returns : goal.returns
returns c =
    let all : c.loop-value.value-index ≡ c.args.n = omega (arith, length-take c.args.n c.args.values) in
    rw all at c.loop-value.invariant.0
