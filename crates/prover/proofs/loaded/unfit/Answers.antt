-- `prover::loaded::unfit` meets its contract: the held slots are searched first, then the held commitment is compared.
-- Assumes nothing.
use mathlib.Core.Path.{◌≡◌, sym, ◌∙◌}
use mathlib.Core.Bool.{or-eq-true_iff}
use mathlib.Core.Logic.Or
use Rattle.sigma.specs.Comparison.{differ}
use Rattle.runs.specs.Prover.{unfit_prover}
use Rattle.image.proofs.Tested.{coordinates_read}
use Rattle.prover.proofs.Fits.{unfit_commitment_law}
use Rattle.prover.proofs.loaded.unfit.Goals as goal

pub returns-then-some_non_coordinate : goal.returns-then-some_non_coordinate
unfolding unfit_prover
returns-then-some_non_coordinate c = λ m.
    sym ((or-eq-true_iff _ _).1 (Or.inl (coordinates_read _ _ ∙ sym c.some_non_coordinate.ensures ∙ c.if-some_non_coordinate.true)))

pub returns : goal.returns
returns c = λ m.
    let held = c.args.held.commitment in
    let compared : c.differ.result ≡ differ 8 c.image.result held = c.differ.ensures in
    compared ∙ unfit_commitment_law _ c.args.sheet.now.valid _ (sym c.some_non_coordinate.ensures ∙ c.if-some_non_coordinate.false) c.image.ensures
