-- `instance::loading::load` meets its contract: a refused sheet gives zeros, and any other gives what it has.
-- Assumes nothing.
use mathlib.Core.Path.{sym, ◌∙◌}
use Rattle.formats.specs.Sheet.{instance_of}
use Rattle.formats.proofs.Loads.{load_given}
use Rattle.refusals.proofs.Positive.{number_positive}
use Rattle.instance.proofs.LoadSteps.{refused_answer}
use Rattle.instance.proofs.loading.load.Goals as goal

pub returns-in-Ok : goal.returns-in-Ok
unfolding instance_of
returns-in-Ok c =
    let told = c.in-Ok.ensures in
    (λ j. record { header = (told.values j).header; statement = (told.values j).statement; refusal = 0 })
    ∙ sym (load_given _ (sym told.number))

pub returns-in-Err : goal.returns-in-Err
returns-in-Err c =
    let number_is = c.in-Err.ensures.number in
    c.refused.ensures ∙ refused_answer _ number_is (number_positive c.in-Err.refusal)
