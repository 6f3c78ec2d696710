-- A call on two sheets' bytes, by what `Pair::load` gives: it is refused with the refusal's number, or is the call on the values.
-- Assumes nothing.
use Prim.Native.Nat.{ℕ}
use mathlib.Core.Path.{◌≡◌, sym, ap, ap₂, ◌∙◌}
use mathlib.Core.List.{List}
use native.Mathlib.Omega.{arith}
use Rattle.rules.specs.Call.{Call, answer}
use Rattle.rules.specs.Rule.{lowest}
use Rattle.rules.proofs.Call.{after_clear}
use Rattle.rules.proofs.Lowest.{clear_lowest}
use Rattle.sigma.specs.Instance.{Instance}
use Rattle.formats.specs.Sheet.{instance_of}
use Rattle.refusals.specs.declared.Refusal.{Refusal}
use Rattle.refusals.specs.Number.{number}
use Rattle.refusals.proofs.Positive.{number_positive}
use Rattle.disjunctions.specs.Judge.{on_pair, pair_rules}
use Rattle.disjunctions.proofs.OnPair.{on_pair_refused, pair_positive}

module _ (s s' : List ℕ) {A : Type 0} where
  -- a call on a refused pair is refused with its number
  pub on_refused_pair : (refusal : Refusal) → number refusal ≡ lowest (pair_rules s s') → (call : Call A)
      → call.refused (number refusal) ≡ answer (on_pair s s' call)
  on_refused_pair refusal is_number call =
      ap call.refused is_number ∙ sym (on_pair_refused s s' call (omega (arith, is_number, number_positive refusal)))

  -- a call on a pair that loads is the call on what loaded
  pub on_loaded_pair : 0 ≡ lowest (pair_rules s s') → {i j : Instance} → (i ≡ instance_of s) × (j ≡ instance_of s')
      → (call : Instance → Instance → Call A) {result : A} → result ≡ answer (call i j)
      → result ≡ answer (on_pair s s' (call (instance_of s) (instance_of s')))
  on_loaded_pair is_number values call is_result =
      let clear = clear_lowest (pair_rules s s') (pair_positive s s') (sym is_number) in
      is_result ∙ ap₂ (λ (i j : Instance). answer (call i j)) values.0 values.1
      ∙ sym (after_clear (call (instance_of s) (instance_of s')) (pair_rules s s') clear)
