use mathlib.Core.Path.{sym, ◌∙◌}
use native.Mathlib.Omega.{arith}
use Rattle.solver.proofs.RootTable.{roots_here, roots_kept, roots_on}
use Rattle.solver.proofs.roots.fill_roots.Goals.{then-is_element+then-table-v-eq0, then-is_element+else-table-v-eq0, else-is_element}
use Rattle.solver.proofs.roots.fill_roots.Goals as goal

pub loop-r-preserved : goal.loop-r-preserved
loop-r-preserved c =
    let h = c.args.h in
    let roots = c.loop-r.invariant.1 in (
      omega arith,
      elim c.if-is_element.branch [
        | then-is_element+then-table-v-eq0 w ↦
            rw w.table-is (roots_here h _ _ roots _ w.pow_mod-v.ensures.value w.pow_mod-v.ensures.below
            (omega (arith, c.requires.0.small_modulus c.requires.1))
            (sym c.is_element.ensures ∙ w.if-is_element.true) w.if-table-v-eq0.true)
        | then-is_element+else-table-v-eq0 w ↦
            rw w.table-is (roots_kept h _ _ roots _ w.pow_mod-v.ensures.value w.if-table-v-eq0.false)
        | else-is_element w ↦ rw w.table-is (roots_on h _ _ roots (sym c.is_element.ensures ∙ w.if-is_element.false))
      ],
    )
