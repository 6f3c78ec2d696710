-- `watch::loaded::named` meets its contract: each return is a law of an accepted round.
-- Assumes nothing.
use mathlib.Core.Path.{◌∙◌}
use native.Mathlib.Omega.{arith}
use Rattle.lists.specs.Places.{zeros8}
use Rattle.watches.specs.Window.{remembered_at}
use Rattle.watch.proofs.Hearing.{none_told, forged_told, named_told, values_or_zeros}
use Rattle.watch.proofs.loaded.named.Goals as goal

pub nearest-requires : goal.nearest-requires
nearest-requires c = (c.args.sheet.now.valid.table.few_rows, c.requires)

pub returns-in_default : goal.returns-in_default
returns-in_default c = λ bytes watched accepted.
    let w = c.args.watch.now in
    c.unnamed.ensures
    ∙ none_told bytes _ w _ watched c.requires accepted w.count (c.in_default.ensures.value w.sheet w.length) (omega arith)

pub returns-in_default-judge_loaded : goal.returns-in_default-judge_loaded
unfolding remembered_at
returns-in_default-judge_loaded c = λ bytes watched accepted.
    let w = c.args.watch.now in
    c.unnamed-in_default-judge_loaded.ensures
    ∙ rw c.number.ensures
    (forged_told bytes _ w _ watched c.requires accepted c.in-Some.i (c.in-Some.ensures.value w.sheet w.length) c.in-Some.ensures.within
    c.judge_loaded.ensures c.in_default-judge_loaded.not-Accepted)

pub returns : goal.returns
unfolding remembered_at zeros8
returns c = λ bytes watched accepted.
    let w = c.args.watch.now in
    rw (c.unwrap_or-witness.ensures ∙ values_or_zeros c.extract_loaded.result)
    (named_told bytes _ w _ watched c.requires accepted c.in-Some.i (c.in-Some.ensures.value w.sheet w.length) c.in-Some.ensures.within
    c.judge_loaded.ensures c.in-Accepted.is c.extract_loaded.ensures)
