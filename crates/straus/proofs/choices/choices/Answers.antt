use mathlib.Core.Path.{◌≡◌, refl}
use native.Mathlib.Omega.{arith}
use Rattle.straus.proofs.Tables.{crossed_start, crossed_more, crossed_choices}
use Rattle.straus.proofs.choices.choices.Goals as goal

pub loop-d-init : goal.loop-d-init
loop-d-init c = (omega arith, crossed_start _ _ _ _ _ _ refl refl refl refl refl c.pairs-high.ensures)

pub loop-d-preserved : goal.loop-d-preserved
loop-d-preserved c =
    (omega arith, crossed_more _ c.loop-d.invariant.1 (omega arith) c.mul.ensures)

pub returns : goal.returns
returns c =
    let all : c.loop-d.d ≡ 16 = omega arith in
    crossed_choices _ _ (rw all at c.loop-d.invariant.1) c.pairs-low.ensures c.pairs-high.ensures
