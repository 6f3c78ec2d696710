-- `combiner::testing::test_images` meets its contract: of the team's rules only that of the images can apply to a sheet that loads.
-- Assumes nothing.
use mathlib.Core.Path.{sym, ◌∙◌}
use Rattle.combiner.proofs.TeamNumber.{valid_elements, image_bad, images_right}
use Rattle.combiner.proofs.testing.test_images.Goals as goal

pub returns-then-some_non_element_part : goal.returns-then-some_non_element_part
returns-then-some_non_element_part c = λ team.
    image_bad _ _ _ team (valid_elements _ c.args.sheet.now.valid) (sym c.some_non_element_part.ensures ∙ c.if-some_non_element_part.true)

pub returns : goal.returns
returns c = λ team.
    images_right _ _ _ team (valid_elements _ c.args.sheet.now.valid) (sym c.some_non_element_part.ensures ∙ c.if-some_non_element_part.false)
