-- What a call on Peggy's session of the OR proof answers: n is the number that its rules gave.
-- Assumes nothing.
use Prim.Native.Nat.{ℕ}
use mathlib.Core.Path.{◌≡◌, sym, ap, ◌∙◌}
use mathlib.Core.Logic.{◌≢◌}
use native.Mathlib.Omega.{arith}
use Rattle.rules.specs.Call.{Call, answer, number_of}
use Rattle.rules.proofs.Call.{answer_refused, answer_value}
use Rattle.disjunctions.specs.declared.OrStep.{OrStep}

module _ (call : Call OrStep) {n : ℕ} (is_number : n ≡ number_of call) {step : OrStep} where
  -- a number above 0: what a refused call hands back with it
  pub step_refused : n ≢ 0 → step ≡ call.refused n → step ≡ answer call
  step_refused other is_step = is_step ∙ ap call.refused is_number ∙ sym (answer_refused call (omega (arith, is_number)))

  -- 0: the value
  pub step_given : n ≡ 0 → step ≡ call.value → step ≡ answer call
  step_given none is_step = is_step ∙ sym (answer_value call (sym is_number ∙ none))
