use Prim.Native.Nat.{◌*◌}
use mathlib.Core.Path.{ap}
use native.Mathlib.Omega.{arith}
use Rattle.lists.proofs.Filling.{filled_start, filled_turn}
use Rattle.solver.proofs.Answers.{images_room}
use Rattle.solver.proofs.ImageTable.{images_all, value_padded}
use Rattle.solver.proofs.images.fill_images.Goals as goal

pub loop-j-init : goal.loop-j-init
loop-j-init c =
    filled_start (omega (arith, images_room c.args.h c.requires.0 _ c.count_of.ensures, c.requires.2))

pub loop-j-preserved : goal.loop-j-preserved
loop-j-preserved c =
    filled_turn c.loop-j.invariant (omega arith)
    (value_padded _ c.requires.1 _ c.loop-j.j c.response_at-response.ensures c.row_image.ensures)

pub returns : goal.returns
returns c =
    let h = c.args.h in
    images_all h _ c.loop-j.invariant c.loop-j-test.false c.requires.2
    (ap (λ (count : _). count * h.rows) c.count_of.ensures)
