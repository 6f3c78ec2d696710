-- `prover::loaded::respond_loaded` meets its contract: the test decides, and the response reads n places.
-- Assumes nothing.
use mathlib.Core.Path.{sym, ap, ◌∙◌}
use mathlib.Core.List.{List}
use Prim.Native.Nat.{ℕ}
use Rattle.std.proofs.lemmas.Result.{err_from_is_err_and}
use Rattle.std.specs.Prelude.{Ok}
use Rattle.lists.specs.Places.{pad8}
use Rattle.refusals.proofs.Positive.{call_answered, call_refused}
use Rattle.runs.specs.Prover.{responding}
use Rattle.prover.specs.Parts.{answered_step, prover_with}
use Rattle.image.proofs.Unread.{response_places}
use Rattle.prover.proofs.Listing.{responding_alike}
use Rattle.prover.proofs.loaded.respond_loaded.Goals as goal

pub returns-in_err-test_respond : goal.returns-in_err-test_respond
unfolding responding answered_step
returns-in_err-test_respond c =
    let passed_on = err_from_is_err_and c.from_residual.result c.from_residual.ensures.1 in
    let refusal = c.in_err-test_respond.field-0.0 in
    let told = c.in_err-test_respond.ensures in
    rw (passed_on.1, passed_on.2) (record {
      answer = call_refused (responding _ _ _ _) refusal told;
      alike = λ m same. call_refused (responding _ _ _ _) refusal (told ∙ sym (responding_alike _ _ _ _ m _ same));
    })

pub returns : goal.returns
unfolding responding answered_step
returns c =
    let read = c.response.ensures ∙ ap (λ (xs : List ℕ). pad8 0 xs) (sym (response_places _ _ _ _)) in
    let told = c.in_ok-test_respond.ensures in
    record {
      answer =
          ap (λ (xs : List ℕ). answered_step (prover_with c.args.held c.args.memory.now) (Ok xs)) read
          ∙ call_answered (responding _ _ _ _) told;
      alike = λ m same.
          ap (λ (xs : List ℕ). answered_step (prover_with c.args.held m) (Ok xs)) read
          ∙ call_answered (responding _ _ _ _) (told ∙ sym (responding_alike _ _ _ _ m _ same));
    }
