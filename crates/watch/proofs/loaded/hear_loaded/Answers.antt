-- `watch::loaded::hear_loaded` meets its contract: each return is a law of giving a watch a round.
-- Assumes nothing.
use mathlib.Core.Path.{sym, ◌∙◌}
use Rattle.watch.proofs.Hearing.{not_refused, refused_told, rejected_told, unfit_bytes, unfit_count, unfit_told}
use Rattle.watch.proofs.loaded.hear_loaded.Goals as goal

pub returns-in-Refused : goal.returns-in-Refused
returns-in-Refused c = λ bytes is-watched.
    c.unnamed.ensures ∙ refused_told bytes _ _ _ c.judge_loaded-verdict.ensures c.in-Refused.is

pub returns-then-not-watched : goal.returns-then-not-watched
returns-then-not-watched c = λ bytes is-watched.
    c.unnamed-then-not-watched.ensures
    ∙ rw c.number.ensures
    (unfit_told bytes _ _ _ c.judge_loaded-verdict.ensures (not_refused _ c.in_default.not-Refused)
    (unfit_bytes bytes _ _ _ (sym is-watched ∙ c.if-not-watched.true)))

pub returns-then-watch-gt63 : goal.returns-then-watch-gt63
returns-then-watch-gt63 c = λ bytes is-watched.
    c.unnamed-then-watch-gt63.ensures
    ∙ rw c.number-then-watch-gt63.ensures
    (unfit_told bytes _ _ _ c.judge_loaded-verdict.ensures (not_refused _ c.in_default.not-Refused)
    (unfit_count bytes _ c.args.watch.now _ c.if-watch-gt63.true))

pub returns-in_default-verdict : goal.returns-in_default-verdict
returns-in_default-verdict c = λ bytes is-watched.
    c.unnamed-in_default-verdict.ensures
    ∙ rejected_told bytes _ c.args.watch.now _ (sym is-watched ∙ c.if-not-watched.false) c.if-watch-gt63.false c.judge_loaded-verdict.ensures
    c.in_default-verdict.not-Accepted
