use mathlib.Core.Path.{refl, sym, ◌∙◌}
use Rattle.modular.proofs.Euclid.{turn_start, turn_step, end_plus, end_minus}
use Rattle.modular.proofs.inverse.Goals as goal

pub loop-y-init : goal.loop-y-init
loop-y-init c = turn_start _ _ c.requires.0 c.requires.1

pub loop-y-preserved : goal.loop-y-preserved
loop-y-preserved c = turn_step c.loop-y.invariant c.loop-y-test.true refl

pub returns-then-mul_mod-eq1 : goal.returns-then-mul_mod-eq1
returns-then-mul_mod-eq1 c =
    let both = end_plus c.loop-y.invariant c.requires.0 (sym c.mul_mod.ensures.value ∙ c.if-mul_mod-eq1.true) in record { value = both.0; below = both.1 }

pub returns : goal.returns
returns c =
    let both = end_minus c.loop-y.invariant c.requires.0 c.loop-y-test.false
    (λ one. c.if-mul_mod-eq1.false (c.mul_mod.ensures.value ∙ one)) in record { value = both.0; below = both.1 }
