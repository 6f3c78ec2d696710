use mathlib.Core.Path.{refl, ◌∙◌}
use native.Mathlib.Omega.{arith}
use Rattle.powers.proofs.Power.{kept_odd, kept_even, kept_end}
use Rattle.modular.proofs.pow_mod.Goals.{else-left-eq1, then-left-eq1}
use Rattle.modular.proofs.pow_mod.Goals as goal

pub loop-left-preserved : goal.loop-left-preserved
loop-left-preserved c =
    let kept = c.loop-left.invariant in
    let squared = c.mul_mod-square.ensures.value in
    elim c.if-left-eq1.branch [ then-left-eq1 w ↦ kept_odd kept w.if-left-eq1.true (w.power-is ∙ w.mul_mod-power.ensures.value) squared | else-left-eq1 w ↦ kept_even kept w.if-left-eq1.false w.power-is squared ]

pub returns-then-left-eq1-2-clause-value : goal.returns-then-left-eq1-2-clause-value
returns-then-left-eq1-2-clause-value c =
    let kept = c.loop-left.invariant in
    let last = kept_odd kept (omega (arith, c.if-left-eq1-2.true)) c.mul_mod.ensures.value refl in kept_end last (omega (arith, c.if-left-eq1-2.true))
