-- `solver::search::first_answer` meets its contract. Assumes nothing.
use mathlib.Core.Path.{ap, ap₂, ◌∙◌}
use native.Mathlib.Omega.{arith}
use Rattle.sigma.specs.Instance.{instance_with}
use Rattle.solver.specs.Match.{first_match, found}
use Rattle.solver.proofs.Answers.{expected_below, held_answers, images_room, match_answers, none_answers, root_below}
use Rattle.solver.proofs.Counting.{count_root}
use Rattle.solver.proofs.Found.{found_here, found_none}
use Rattle.solver.proofs.search.first_answer.Goals as goal

pub first_match-requires : goal.first_match-requires
first_match-requires c = (c.requires.few_rows, images_room c.args.h c.requires _ c.count_of.ensures)

pub returns-then-h-eq1 : goal.returns-then-h-eq1
returns-then-h-eq1 c = λ entries valid fine asked prepared.
    let a = c.args in
    let kind = c.if-h-eq1.true in
    c.first_match.ensures
    ∙ ap₂ found c.count_of.ensures
    (ap (λ (count : _). first_match a.table.now count a.h.rows c.expected_image-expected.result) c.count_of.ensures
    ∙ match_answers (instance_with a.h entries a.statement) c.requires valid a.commitment fine a.challenge asked
    _ (c.expected_image-expected.ensures entries) kind _ (prepared.images kind))

pub bounds-table-expected : goal.bounds-table-expected
bounds-table-expected c =
    let a = c.args in
    omega (
      arith,
      c.requires.small_modulus c.if-h-eq1.false,
      expected_below a.h a.statement a.commitment a.challenge c.requires _ c.expected_image-expected.ensures,
    )

pub returns-then-root-eq0 : goal.returns-then-root-eq0
returns-then-root-eq0 c = λ entries valid fine asked prepared.
    let a = c.args in
    let small = c.requires in
    let kind = c.if-h-eq1.false in
    let below = expected_below a.h a.statement a.commitment a.challenge small _ c.expected_image-expected.ensures in
    found_none (count_root a.h kind
    ∙ none_answers (instance_with a.h entries a.statement) small valid a.commitment fine a.challenge asked
    _ (c.expected_image-expected.ensures entries) kind _ ((prepared.roots kind).each _ below) c.if-root-eq0.true)

pub returns : goal.returns
returns c = λ entries valid fine asked prepared.
    let a = c.args in
    let small = c.requires in
    let kind = c.if-h-eq1.false in
    let inst = instance_with a.h entries a.statement in
    let below = expected_below a.h a.statement a.commitment a.challenge small _ c.expected_image-expected.ensures in
    let held = (prepared.roots kind).each _ below in
    let expected = c.expected_image-expected.ensures entries in
    let inside = root_below inst small valid a.commitment fine a.challenge asked _ expected kind _ held c.if-root-eq0.false in
    found_here (omega (arith, inside, count_root a.h kind))
    (held_answers inst small valid a.commitment fine a.challenge asked _ expected kind _ held c.if-root-eq0.false)
