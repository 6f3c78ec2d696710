use mathlib.Core.Path.{ap, ◌∙◌}
use Rattle.lists.proofs.Places.{tabulate_at}
use Rattle.powers.specs.declared.four.Four.{Four}
use Rattle.powers.specs.Places.{products_of, powers_of}
use Rattle.powers.proofs.Lanes.{lane, lane_same, lanes_are}
use Rattle.powers.proofs.Power.{kept_start, kept_odd, kept_even, kept_end}
use Rattle.powers.proofs.four.Four.pow.Goals.{else-left-eq1, then-left-eq1}
use Rattle.powers.proofs.four.Four.pow.Goals as goal

pub loop-left-init : goal.loop-left-init
loop-left-init c = λ k inside. kept_start _ _ _ c.args.by.some (ap (λ (x : Four). lane x k) c.splat-power.ensures ∙ lane_same _ k inside)

pub loop-left-preserved : goal.loop-left-preserved
unfolding products_of
loop-left-preserved c = λ k inside.
    let kept = c.loop-left.invariant k inside in
    let squared = tabulate_at 4 _ 0 c.mul-square.ensures k inside in
    elim c.if-left-eq1.branch [ then-left-eq1 w ↦ kept_odd kept w.if-left-eq1.true (ap (λ (x : Four). lane x k) w.power-is ∙ tabulate_at 4 _ 0 w.mul-power.ensures k inside) squared | else-left-eq1 w ↦ kept_even kept w.if-left-eq1.false (ap (λ (x : Four). lane x k) w.power-is) squared ]

pub returns : goal.returns
unfolding powers_of
returns c = lanes_are _ _ (λ k inside. kept_end (c.loop-left.invariant k inside) c.loop-left-test.false)
