use mathlib.Core.Path.{◌≡◌, ap, ◌∙◌}
use native.Mathlib.Omega.{arith}
use Rattle.lists.proofs.Places.{tabulate_at}
use Rattle.powers.specs.declared.four.Four.{Four}
use Rattle.powers.specs.Places.{products_of}
use Rattle.powers.proofs.Lanes.{lane, lanes_are}
use Rattle.straus.specs.MultiPowers.{straus_turn}
use Rattle.straus.proofs.Straus.{columns_start, column_set, column_clear, columns_end}
use Rattle.straus.proofs.straus_turn.Goals.{else-exponents-j-eq1, then-exponents-j-eq1}
use Rattle.straus.proofs.straus_turn.Goals as goal

pub loop-j-init : goal.loop-j-init
unfolding products_of
loop-j-init c = (omega arith, λ i inside. columns_start _ _ _ _ _ _ (tabulate_at 4 _ 0 c.mul-next.ensures i inside))

pub loop-j-preserved : goal.loop-j-preserved
unfolding products_of
loop-j-preserved c = (
  omega arith,
  λ i inside.
      let held = c.loop-j.invariant.1 i inside in
      elim c.if-exponents-j-eq1.branch [ then-exponents-j-eq1 w ↦ column_set _ _ _ _ _ _ w.if-exponents-j-eq1.true held (ap (λ (x : Four). lane x i) w.next-is ∙ tabulate_at 4 _ 0 w.mul-next-then-exponents-j-eq1.ensures i inside) | else-exponents-j-eq1 w ↦ column_clear _ _ _ _ _ _ w.if-exponents-j-eq1.false held (ap (λ (x : Four). lane x i) w.next-is) ],
)

pub returns : goal.returns
unfolding products_of straus_turn
returns c =
    let all : c.loop-j.j ≡ c.args.n = omega arith in
    let held = rw all at c.loop-j.invariant.1 in
    lanes_are _ _ (λ i inside.
    columns_end _ _ _ _ _ _ _ (tabulate_at 4 _ 0 c.mul-next.ensures i inside) (held i inside))
