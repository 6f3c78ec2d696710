-- `prover::loaded::commit_loaded` meets its contract: the test decides, and the image reads n places of the nonce.
-- Assumes nothing.
use mathlib.Core.Path.{sym, ap, ◌∙◌}
use mathlib.Core.List.{List}
use Prim.Native.Nat.{ℕ}
use Rattle.std.proofs.lemmas.Result.{err_from_is_err_and}
use Rattle.types.specs.declared.ProverPhase.TheVariants.{Committed}
use Rattle.lists.specs.Places.{pad8}
use Rattle.refusals.proofs.Positive.{call_answered, call_refused}
use Rattle.runs.specs.Prover.{committing}
use Rattle.prover.specs.Parts.{committed_step}
use Rattle.image.proofs.Unread.{image_places}
use Rattle.prover.proofs.loaded.commit_loaded.Goals as goal

pub returns-in_err-test_commit : goal.returns-in_err-test_commit
unfolding committing committed_step
returns-in_err-test_commit c = λ m.
    let sheet = c.args.sheet.now in
    let passed_on = err_from_is_err_and c.from_residual.result c.from_residual.ensures.1 in
    rw (passed_on.1, passed_on.2)
    (call_refused (committing _ _ _) c.in_err-test_commit.field-0.0 (c.in_err-test_commit.ensures sheet.entries sheet.statement m))

pub returns : goal.returns
unfolding committing committed_step
returns c = λ m.
    let sheet = c.args.sheet.now in
    let read = c.image.ensures ∙ ap (λ (xs : List ℕ). pad8 0 xs) (sym (image_places _ sheet.valid.table _)) in
    (λ j. record {
      refusal = 0;
      session = record { phase = Committed; nonce = c.first_places.ensures j; commitment = read j; memory = m };
      values = read j;
    })
    ∙ call_answered (committing _ _ _) (c.in_ok-test_commit.ensures sheet.entries sheet.statement m)
