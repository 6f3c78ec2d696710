use mathlib.Core.Path.{refl, sym, ◌∙◌}
use native.Mathlib.Omega.{arith}
use Rattle.patterns.specs.PatternFile.{pattern_start}
use Rattle.pattern_file.proofs.Walk.{digits_cut, next_start, sized_still, sized_yet, sizes_cut, sizes_wrong, walk_end}
use Rattle.pattern_file.proofs.layout.bad_patterns.Goals as goal

pub loop-init : goal.loop-init
unfolding pattern_start
loop-init c = (refl, omega arith, omega arith, sized_yet _)

pub returns-then-file-at-lt3 : goal.returns-then-file-at-lt3
returns-then-file-at-lt3 c =
    sizes_cut _ _ _ c.loop.invariant.0 c.loop-test.true c.if-file-at-lt3.true

pub returns-then-wrong_sizes : goal.returns-then-wrong_sizes
returns-then-wrong_sizes c =
    sizes_wrong _ _ _ c.loop.invariant.0 c.loop-test.true c.sizes_at-p.ensures
    (sym c.wrong_sizes.ensures ∙ c.if-wrong_sizes.true)

pub returns-then-file-at : goal.returns-then-file-at
returns-then-file-at c =
    digits_cut _ _ _ c.loop.invariant.0 c.loop-test.true c.sizes_at-p.ensures c.if-file-at.true

pub loop-preserved : goal.loop-preserved
loop-preserved c =
    let (here, _, _, sized) = c.loop.invariant in
    let is = c.sizes_at-p.ensures in (
      next_start _ _ here is,
      omega arith,
      omega arith,
      sized_still _ _ _ here c.loop-test.true is sized (sym c.wrong_sizes.ensures ∙ c.if-wrong_sizes.false),
    )

pub returns : goal.returns
returns c =
    let (here, _, few, sized) = c.loop.invariant in
    walk_end _ _ _ here sized few c.loop-test.false
