use mathlib.Core.Path.{◌≡◌, sym, ap, ◌∙◌}
use native.Mathlib.Omega.{arith}
use Rattle.lists.specs.Places.{pad8}
use Rattle.lists.proofs.Filling.{filled_start, filled_turn, filled_eight}
use Rattle.solver.proofs.Counting.{candidate_exponent, candidate_root, count_exponent}
use Rattle.solver.proofs.Digits.{digits_all, left_start, left_turn, next_digit, next_positive}
use Rattle.solver.proofs.candidates.response_at.Goals as goal

pub returns-then-h-ne1 : goal.returns-then-h-ne1
unfolding pad8
returns-then-h-ne1 c = ap (pad8 0) (sym (candidate_root _ c.if-h-ne1.true _))

pub loop-j-init : goal.loop-j-init
loop-j-init c =
    let h = c.args.h in
    let kind : h.kind ≡ 1 = omega (arith, c.if-h-ne1.false) in (
      filled_start c.requires.few_columns,
      left_start h.order c.requires.order h.columns c.args.k _ (c.count_of-weight.ensures ∙ count_exponent h kind),
    )

pub nonzero_div-slots : goal.nonzero_div-slots
nonzero_div-slots c =
    let some = c.requires.order in
    next_positive _ some _ _ _ _ _ c.loop-j-test.true c.loop-j.invariant.1

pub nonzero_rem-rest : goal.nonzero_rem-rest
nonzero_rem-rest c =
    let some = c.requires.order in
    next_positive _ some _ _ _ _ _ c.loop-j-test.true c.loop-j.invariant.1

pub loop-j-preserved : goal.loop-j-preserved
loop-j-preserved c =
    let some = c.requires.order in
    let (filled, left) = c.loop-j.invariant in
    let more = c.loop-j-test.true in
    (filled_turn filled more (next_digit _ some _ _ _ _ _ more left), left_turn _ some _ _ _ _ _ more left)

pub returns : goal.returns
returns c =
    let h = c.args.h in
    let kind : h.kind ≡ 1 = omega (arith, c.if-h-ne1.false) in
    filled_eight c.loop-j.invariant.0 c.loop-j-test.false
    ∙ ap (pad8 0) (digits_all h.order c.requires.order h.columns c.args.k
    ∙ sym (candidate_exponent h kind c.args.k))
