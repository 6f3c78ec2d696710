-- `combiner::calls::joined` meets its contract: the number of the sheet and the team's size is the answer, else the call is that on
-- the sheet's values and the first rows of what the players bring.
-- Assumes nothing.
use mathlib.Core.Path.{◌≡◌, refl, ◌∙◌}
use native.Mathlib.Omega.{arith}
use lib.ListN.{length, take}
use Rattle.std.proofs.lemmas.Result.{err_from_is_err_and}
use Rattle.rules.specs.Call.{after, number_of}
use Rattle.formats.specs.Load.{shape_rules}
use Rattle.refusals.proofs.Positive.{call_refused, number_positive}
use Rattle.products.specs.Team.{join_responses, joining}
use Rattle.products.proofs.TeamAnswers.{team_corollaries}
use Rattle.combiner.proofs.Rows.{taken_agree, taken_length}
use Rattle.combiner.proofs.SheetNumber.{sized_call, sized_few, sized_number, sized_passes}
use Rattle.combiner.proofs.calls.joined.Goals as goal

pub returns-in_err-loaded : goal.returns-in_err-loaded
unfolding join_responses joining number_of
returns-in_err-loaded c =
    let args = c.args in
    let refusal = c.in_err-loaded.field-0.0 in
    let passed_on = err_from_is_err_and c.from_residual.result c.from_residual.ensures.1 in
    rw (passed_on.1, passed_on.2)
    (call_refused (after (shape_rules _) (joining _ args.count args.images.now args.parts.now)) refusal
    (sized_number _ _ c.in_err-loaded.ensures.number _ _ (λ e. omega (arith, e, number_positive refusal))))

pub shared_ref_as_front-join_loaded : goal.shared_ref_as_front-join_loaded
shared_ref_as_front-join_loaded c =
    let few = sized_few _ _ c.in_ok-loaded.ensures.number refl in
    omega arith

pub slice_bounds-join_loaded-end : goal.slice_bounds-join_loaded-end
slice_bounds-join_loaded-end c =
    let few = sized_few _ _ c.in_ok-loaded.ensures.number refl in
    omega (arith, taken_length c.args.count c.args.images.now (omega arith))

pub slice_bounds-join_loaded-end-2 : goal.slice_bounds-join_loaded-end-2
slice_bounds-join_loaded-end-2 c =
    let few = sized_few _ _ c.in_ok-loaded.ensures.number refl in
    omega (arith, taken_length c.args.count c.args.parts.now (omega arith))

pub join_loaded-requires : goal.join_loaded-requires
join_loaded-requires c =
    let args = c.args in
    let few = sized_few _ _ c.in_ok-loaded.ensures.number refl in
    let images = taken_length args.count args.images.now (omega arith) in
    let parts = taken_length args.count args.parts.now (omega arith) in
    omega arith

pub returns : goal.returns
unfolding join_responses
returns c =
    let args = c.args in
    let told = c.in_ok-loaded.ensures in
    let (shape, (team, _)) = sized_passes _ _ told.number refl in
    let few = sized_few _ _ told.number refl in
    let images = take args.count args.images.now in
    let parts = take args.count args.parts.now in
    let all : length images ≡ args.count = taken_length args.count args.images.now (omega arith) in
    sized_call _ _ told.number refl (λ inst. joining inst (length images) images parts) told.values
    (c.join_loaded.ensures (rw all team))
    ∙ rw all (team_corollaries.joined_read _ args.count images args.images.now parts args.parts.now (taken_agree args.count args.images.now _)
    (taken_agree args.count args.parts.now _))
