-- `combiner::loaded::join_loaded` meets its contract: the tests decide, else what is computed of the parts is the answer.
-- Assumes nothing.
use mathlib.Core.Path.{refl, sym, ◌∙◌}
use native.Mathlib.Omega.{arith}
use lib.ListN.{length}
use Rattle.std.proofs.lemmas.Result.{err_from_is_err_and}
use Rattle.rules.specs.Call.{number_of}
use Rattle.sigma.specs.Round.{bad_coordinates}
use Rattle.refusals.specs.declared.Refusal.TheVariants.{Slot}
use Rattle.refusals.proofs.Positive.{call_answered, call_refused, number_positive}
use Rattle.products.specs.Team.{joining}
use Rattle.combiner.specs.Parts.{non_coordinate_part}
use Rattle.combiner.proofs.TeamNumber.{parts_bad, product_tested, team_first}
use Rattle.combiner.proofs.loaded.join_loaded.Goals as goal

pub returns-in_err-test_images : goal.returns-in_err-test_images
unfolding joining number_of
returns-in_err-test_images c = λ team.
    let images = c.args.images.now in
    let passed_on = err_from_is_err_and c.from_residual.result c.from_residual.ensures.1 in
    let refusal = c.in_err-test_images.field-0.0 in
    rw (passed_on.1, passed_on.2)
    (call_refused (joining _ (length images) images c.args.parts.now) refusal
    (team_first _ _ _ 16 _ _ (c.in_err-test_images.ensures team) (λ e. omega (arith, e, number_positive refusal))))

pub returns-then-some_non_coordinate_part : goal.returns-then-some_non_coordinate_part
unfolding joining number_of bad_coordinates non_coordinate_part
returns-then-some_non_coordinate_part c = λ team.
    let images = c.args.images.now in
    let bad = rw c.requires.1 at (sym c.some_non_coordinate_part.ensures ∙ c.if-some_non_coordinate_part.true) in
    call_refused (joining _ (length images) images c.args.parts.now) Slot
    (parts_bad _ _ _ 16 _ _ (c.in_ok-test_images.ensures team) refl bad)

pub returns-in_err-test_product : goal.returns-in_err-test_product
unfolding joining number_of bad_coordinates non_coordinate_part
returns-in_err-test_product c = λ team.
    let images = c.args.images.now in
    let passed_on = err_from_is_err_and c.from_residual-in_err-test_product.result c.from_residual-in_err-test_product.ensures.1 in
    let good = rw c.requires.1 at (sym c.some_non_coordinate_part.ensures ∙ c.if-some_non_coordinate_part.false) in
    rw (passed_on.1, passed_on.2)
    (call_refused (joining _ (length images) images c.args.parts.now) c.in_err-test_product.field-0.0
    (product_tested _ _ _ 16 _ _ (c.in_ok-test_images.ensures team) refl good c.in_err-test_product.ensures))

pub returns : goal.returns
unfolding joining number_of bad_coordinates non_coordinate_part
returns c = λ team.
    let images = c.args.images.now in
    let good = rw c.requires.1 at (sym c.some_non_coordinate_part.ensures ∙ c.if-some_non_coordinate_part.false) in
    (λ i. record { refusal = 0; values = rw c.requires.1 at (c.join_all.ensures) i })
    ∙ call_answered (joining _ (length images) images c.args.parts.now)
    (product_tested _ _ _ 16 _ _ (c.in_ok-test_images.ensures team) refl good c.in_ok-test_product.ensures)
