use mathlib.Core.Path.{refl, ap, ◌∙◌}
use native.Mathlib.Omega.{arith}
use Rattle.patterns.specs.PatternFile.{pattern_start}
use Rattle.patterns.proofs.Files.{passes_23}
use Rattle.pattern_file.proofs.Walk.{digits_within, next_start, sizes_within}
use Rattle.pattern_file.proofs.layout.start_of.Goals as goal

pub loop-init : goal.loop-init
unfolding pattern_start
loop-init c = (refl, omega arith)

pub sizes_at-p-requires : goal.sizes_at-p-requires
sizes_at-p-requires c =
    let filed = c.requires.listed in let few = c.requires.number in
    let here = c.loop.invariant.0 in
    record { within = sizes_within _ _ here ((passes_23 _).0 filed) (omega arith) }

pub overflow_add-at : goal.overflow_add-at
overflow_add-at c =
    let filed = c.requires.listed in let few = c.requires.number in
    omega (arith, digits_within _ _ c.loop.invariant.0 ((passes_23 _).0 filed) (omega arith) c.sizes_at-p.ensures)

pub overflow_add-at-in-loop : goal.overflow_add-at-in-loop
overflow_add-at-in-loop c =
    let filed = c.requires.listed in let few = c.requires.number in
    omega (arith, digits_within _ _ c.loop.invariant.0 ((passes_23 _).0 filed) (omega arith) c.sizes_at-p.ensures)

pub loop-preserved : goal.loop-preserved
loop-preserved c =
    (next_start _ _ c.loop.invariant.0 c.sizes_at-p.ensures, omega arith)

pub returns : goal.returns
returns c =
    let (here, within) = c.loop.invariant in
    here ∙ ap (pattern_start _) (omega arith)
