-- `or_extractor::loaded::named_witness` meets its contract: each return is a law of the side that is named.
-- Assumes nothing.
use mathlib.Core.Path.{ap₂, ◌∙◌}
use native.Mathlib.Nat.{le_of_lt}
use native.Mathlib.Omega.{arith}
use Rattle.sigma.specs.Extractor.{extract_loaded}
use Rattle.refusals.proofs.Positive.{number_positive}
use Rattle.or_judge.proofs.Verdicts.{pair_fits}
use Rattle.or_extractor.proofs.Witnesses.{first_runs, first_side, named_below, second_runs, second_side, some_challenge}
use Rattle.or_extractor.proofs.loaded.named_witness.Goals as goal

pub returns-in_err-values : goal.returns-in_err-values
returns-in_err-values c =
    let runs = first_runs (pair_fits c.args.pair.now) _ _ c.requires c.if-a-b.true
    (c.in_err-values.ensures ∙ ap₂ (extract_loaded _) c.first_round.ensures c.first_round-then-a-b.ensures) in
    absurd (omega (arith, runs, number_positive c.in_err-values.field-0.0))

pub returns-then-a-b : goal.returns-then-a-b
returns-then-a-b c =
    first_side (pair_fits c.args.pair.now) _ _ c.requires c.if-a-b.true
    (c.in_ok-values.ensures ∙ ap₂ (extract_loaded _) c.first_round.ensures c.first_round-then-a-b.ensures)

pub second_round-c-requires : goal.second_round-c-requires
second_round-c-requires c =
    let fit = pair_fits c.args.pair.now in
    (some_challenge fit _ _ c.requires, le_of_lt (named_below fit _ _ c.requires).0)

pub second_round-d-requires : goal.second_round-d-requires
second_round-d-requires c =
    let fit = pair_fits c.args.pair.now in
    (some_challenge fit _ _ c.requires, le_of_lt (named_below fit _ _ c.requires).1)

pub returns-in_err-values-2 : goal.returns-in_err-values-2
returns-in_err-values-2 c =
    let runs = second_runs (pair_fits c.args.pair.now) _ _ c.requires c.if-a-b.false
    (c.in_err-values-2.ensures ∙ ap₂ (extract_loaded _) c.second_round-c.ensures c.second_round-d.ensures) in
    absurd (omega (arith, runs, number_positive c.in_err-values-2.field-0.0))

pub returns : goal.returns
returns c =
    second_side (pair_fits c.args.pair.now) _ _ c.requires c.if-a-b.false
    (c.in_ok-values-2.ensures ∙ ap₂ (extract_loaded _) c.second_round-c.ensures c.second_round-d.ensures)
