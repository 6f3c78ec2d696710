-- `crossing::verifiers::verifier_judgement` meets its contract: the number decides which session is handed back.
-- Assumes nothing.
use Prim.Native.Nat.{◌<◌}
use mathlib.Core.Path.{◌≡◌, ap, ◌∙◌}
use native.Mathlib.Omega.{arith}
use Rattle.sigma.specs.Answer.{outcome}
use Rattle.rules.proofs.Answer.{unless_refused_zero, unless_refused_positive}
use Rattle.crossing.proofs.Judgements.{judgement_number}
use Rattle.crossing.specs.Verifiers.{verifier_judgement}
use Rattle.crossing.specs.declared.Judgement.{Judgement}
use Rattle.crossing.proofs.verifiers.verifier_judgement.Goals as goal

pub returns-then-verdict-ne0 : goal.returns-then-verdict-ne0
unfolding verifier_judgement
returns-then-verdict-ne0 c =
    let judged = c.from-verdict.ensures in
    let number = ap (λ (j : Judgement). j.refusal) judged ∙ judgement_number _ in
    let refused : 0 < (outcome c.args.told.verdict).number = omega arith in
    rw (judged, unless_refused_positive _ _ _ refused)

pub returns : goal.returns
unfolding verifier_judgement
returns c =
    let judged = c.from-verdict.ensures in
    let number = ap (λ (j : Judgement). j.refusal) judged ∙ judgement_number _ in
    let passed : (outcome c.args.told.verdict).number ≡ 0 = omega arith in
    rw (judged, c.from.ensures, passed, unless_refused_zero)
